-- What quick-xml's five calls on a BufRead return: by all bytes that it has still to give, what stands behind them, and the position.
use Rattle.std.specs.Prelude.{ℕ, zero, suc, ◌+◌, Bool, if◌then◌else◌, ◌||◌, List, [], ◌∷◌, ◌++◌, length, take, drop, Some, None, Ok, Err, Option, Result, ◌==◌, slice_index}
use Rattle.std.specs.Option.{option_map}
use Rattle.source.specs.Stream.{Tail, end, fault}
use Rattle.parser.specs.Scan.{Verdict, stop, unclosed, Meaning}
use Rattle.bang.specs.Bang.{bang}
use Rattle.bang.specs.declared.bang.BangType.{BangType}
use Rattle.utf8.specs.Utf8.{judged}
use Rattle.model.specs.Call.{chain, checked}
use Rattle.model.specs.Bang.{kind_of, bang_of}
use Rattle.model.specs.declared.answer.ReadText.{ReadText}
use Rattle.model.specs.declared.answer.ReadText.TheVariants as text
use Rattle.model.specs.declared.answer.ReadRef.{ReadRef}
use Rattle.model.specs.declared.answer.ReadRef.TheVariants as ref
use Rattle.model.specs.declared.answer.BangKind.{BangKind}
use Rattle.errors.specs.declared.Error.{Error}
use Rattle.errors.specs.declared.Error.TheVariants.{Io, Syntax}

pub record Returned (A : Type 0) : Type 0 where
  -- a piece of text is all that was appended, so the answer has its length
  pub answer : Result A Error
  -- what was appended to the Vec
  pub bytes : List ℕ
  pub position : ℕ
  -- what the BufRead has still to give
  pub left : List ℕ

abbrev pub returned : {A : Type 0} → Result A Error → List ℕ → ℕ → List ℕ → Returned A
returned a bs p l = record { answer = a; bytes = bs; position = p; left = l }

-- memchr: the first place of a byte that is sought
abbrev pub place : (ℕ → Bool) → List ℕ → Option ℕ
place sought [] = None
place sought (b ∷ bs) = if sought b then Some 0 else option_map suc (place sought bs)

-- from_utf8 of what was appended
abbrev pub text_of : {A : Type 0} → (ℕ → A) → List ℕ → Result A Error
text_of answer w = checked (judged w) (answer (length w))

-- all bytes were consumed: fill_buf gives none, which is the end, or fails; interrupted it is called again, so waits do not show
abbrev pub at_tail : {A : Type 0} → Tail → Result A Error → Result A Error
at_tail end r = r
at_tail (fault f) r = Err (Io f)

-- fill_buf, and its first byte
abbrev pub first : List ℕ → Tail → Result (Option ℕ) Error
first [] t = at_tail t (Ok None)
first (b ∷ bs) t = Ok (Some b)

-- behind what was pushed, n bytes are appended and consumed; the position grows by all that was appended, and that is answered to
abbrev pub appending : {A : Type 0} → List ℕ → ℕ → List ℕ → ℕ → (List ℕ → Result A Error) → Returned A
appending pushed n bs p answer = returned (answer (pushed ++ take n bs)) (pushed ++ take n bs) (p + length (pushed ++ take n bs)) (drop n bs)

-- read_text, by the first place of `<` (60) or `&` (38)
abbrev pub text_by : Option ℕ → List ℕ → Tail → ℕ → Returned ReadText
text_by (Some zero) bs t p = returned (Ok (if slice_index bs 0 == 60 then text.Markup else text.Ref)) [] p bs
text_by (Some (suc i)) bs t p = appending [] (suc i) bs p (text_of (if slice_index bs (suc i) == 60 then text.UpToMarkup else text.UpToRef))
text_by None bs t p = appending [] (length bs) bs p (λ w. at_tail t (text_of text.UpToEof w))

abbrev pub rust_read_text : List ℕ → Tail → ℕ → Returned ReadText
rust_read_text bs t p = text_by (place (λ b. (b == 60) || b == 38) bs) bs t p

-- read_ref behind its `&`, by the first place of `;` (59), `&` or `<`
abbrev pub ref_by : Option ℕ → List ℕ → Tail → ℕ → Returned ReadRef
ref_by (Some i) bs t p =
    if slice_index bs i == 59 then appending (38 ∷ []) (suc i) bs p (text_of ref.Ref)
    else appending (38 ∷ []) i bs p (text_of (if slice_index bs i == 38 then ref.UpToRef else ref.UpToMarkup))
ref_by None bs t p = appending (38 ∷ []) (length bs) bs p (λ w. at_tail t (text_of ref.UpToEof w))

-- called where the first byte is `&`, or there is none
abbrev pub rust_read_ref : List ℕ → Tail → ℕ → Returned ReadRef
rust_read_ref [] t p = returned (at_tail t (text_of ref.UpToEof [])) [] p []
rust_read_ref (b ∷ bs) t p = ref_by (place (λ c. (c == 59) || (c == 38 || c == 60)) bs) bs t p

-- called where the first byte is `<`, which is consumed
abbrev pub rust_peek_one : List ℕ → Tail → ℕ → Returned (Option ℕ)
rust_peek_one bs t p = returned (first (drop 1 bs) t) [] p (drop 1 bs)

-- behind what was pushed, the bytes through the parser's stop; the verdict is on all bytes, whatever runs they come in
abbrev pub scan_by : {A : Type 0} → Verdict → List ℕ → (ℕ → A) → List ℕ → Tail → ℕ → Returned A
scan_by (stop k) pushed answer bs t p = appending pushed (suc k) bs p (text_of answer)
scan_by (unclosed due) pushed answer bs t p = appending pushed (length bs) bs p (λ w. at_tail t (Err (Syntax (due w))))

abbrev pub rust_read_with : Meaning → List ℕ → Tail → ℕ → Returned ℕ
rust_read_with m bs t p = scan_by (m bs) (60 ∷ []) (λ n. n) bs t p

-- read_bang_element behind its `!` (33); where there is no kind the position stays
abbrev pub bang_by : Result BangType Error → List ℕ → Tail → ℕ → Returned (BangKind × ℕ)
bang_by (Ok b) bs t p = scan_by (bang b bs) (60 ∷ 33 ∷ []) (λ n. (kind_of b, n)) bs t p
bang_by (Err e) bs t p = returned (Err e) (60 ∷ 33 ∷ []) p bs

-- called where the first byte is `!`, which is consumed
abbrev pub rust_read_bang_element : List ℕ → Tail → ℕ → Returned (BangKind × ℕ)
rust_read_bang_element bs t p = bang_by (chain (first (drop 1 bs) t) bang_of) (drop 1 bs) t p
