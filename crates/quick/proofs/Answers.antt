-- Each call answers as quick-xml's does. Assumes nothing.
use Rattle.std.proofs.Common.{◌≡◌, ℕ, zero, suc, ◌+◌, ◌-◌, ◌^◌, ◌<◌, ◌≤◌, Bool, true, false, cond, eqb, List, [], ◌∷◌, ◌++◌, length, get_or, take, drop, is_some, Some, None, Ok, Err, Option, Result, sym, refl, ap, ◌∙◌, subst, inl, inr, arith, length-append, length-drop, length-take}
use Rattle.std.proofs.lemmas.Bool.{lt-leb, le-ltb}
use lib.Seq.{take-append_seam}
use Rattle.source.specs.declared.fault.Fault.{Fault}
use Rattle.source.specs.Stream.{Item, Tail, end, fault, bytes_in, bytes_of, waits_in}
use Rattle.parser.specs.Scan.{Verdict, stop, unclosed}
use Rattle.bang.specs.Bang.{bang, bang-prefix}
use Rattle.bang.specs.declared.bang.BangType.{BangType}
use Rattle.parser.specs.declared.errors.SyntaxError.{SyntaxError}
use Rattle.utf8.specs.Utf8.{judged}
use Rattle.utf8.specs.declared.Utf8Error.{Utf8Error}
use Rattle.model.specs.Cut.{Cut, before, through, nowhere, behind_one, behind, ref_cut, verdict_cut}
use Rattle.model.specs.Gather.{Gathered, gather}
use Rattle.model.specs.Told.{text_told, ref_told, peek_told, with_told, bang_told}
use Rattle.model.specs.Call.{State, left_with, Outcome, outcome, pends, admitted, chain, checked, over, taking, spending, text_kind, text_piece, ref_piece, with_piece, read_piece, unless_early, text_reading, ref_reading, with_reading}
use Rattle.model.specs.Peek.{peek_behind, peek_first, peek_unless, await}
use Rattle.model.specs.Bang.{kind_of, bang_of, bang_prefix, with_kind, bang_stuck, bang_piece, bang_named, bang_first, bang_unless}
use Rattle.model.specs.declared.ending.Pending.{Pending}
use Rattle.model.specs.declared.ending.Pending.TheVariants as pending
use Rattle.model.specs.declared.ending.TextEnd.{TextEnd}
use Rattle.model.specs.declared.ending.TextEnd.TheVariants as text_end
use Rattle.model.specs.declared.ending.RefEnd.{RefEnd}
use Rattle.model.specs.declared.ending.RefEnd.TheVariants as ref_end
use Rattle.model.specs.declared.answer.ReadText.{ReadText}
use Rattle.model.specs.declared.answer.ReadText.TheVariants as text
use Rattle.model.specs.declared.answer.ReadRef.{ReadRef}
use Rattle.model.specs.declared.answer.ReadRef.TheVariants as ref
use Rattle.model.specs.declared.answer.BangKind.{BangKind}
use Rattle.model.specs.declared.answer.Refusal.{Refusal}
use Rattle.model.specs.declared.answer.Told.{Told}
use Rattle.errors.specs.declared.Error.{Error}
use Rattle.errors.specs.declared.Error.TheVariants.{Io, Syntax}
use Rattle.model.proofs.Cuts.{behind-before, behind_through}
use Rattle.model.proofs.Counts.{counts, text-counts, ref-counts, one_before, scanned_counts}
use Rattle.quick.specs.QuickXml.{Returned, returned, place, text_of, at_tail, first, appending, text_by, ref_by, rust_read_ref, rust_peek_one, scan_by, rust_read_with, bang_by, rust_read_bang_element}
use Rattle.quick.specs.Answers.{plain_answer, plain_turned, plain_peeked, AnswersAs, TextAsQuickXml, RefAsQuickXml, PeekAsQuickXml, WithAsQuickXml, BangAsQuickXml}
use Rattle.quick.proofs.Cuts.{place_inside, text_sought, text_end_at, text_cut_by, text_cut-place, name_sought, name_end_at, name_cut_by, name_cut-place}
use Rattle.quick.proofs.Gathers.{cut_length, Inside, cut_ending, piece, gather_cuts_in, await-behind}

-- a call that is not refused before any look
admits : (position size : ℕ) (wanted : Pending) (opening : Option ℕ) (least : ℕ) → position < 2 ^ 63 → size ≤ 16777216 → pends wanted opening ≡ Ok tt → least ≤ size
    → admitted position size wanted opening least ≡ Ok tt
admits position size wanted opening least h k q l =
    let counts = lt-leb (2 ^ 63) position h in
    let short = le-ltb 16777216 size k in
    let long = le-ltb size least l in
    rw (counts, short, q, long)

-- what ends a piece that no byte ends
tail_ends : {A E : Type 0} (due : List ℕ → E) (w : List ℕ) (f : E → Result A Error) (t : Tail) → chain (cut_ending (nowhere due) w t) f ≡ at_tail t (f (due w))
tail_ends due w f end = refl
tail_ends due w f (fault x) = refl

-- a call that answers to a gathering; `ahead` bytes of what it writes were taken before
module _ {A B E : Type 0} (plain : B → Result A Error) (told : B → Told) (answer : List ℕ → Result E Error → B) (ahead : ℕ)
    (tells : (w : List ℕ) (e : Result E Error) → counts (told (answer w e)) ≡ (length w, length w - ahead)) (s : State) (buf : List ℕ) where
  abbrev pub answered : Gathered E → Outcome B
  answered g = outcome (answer g.bytes g.ending) (left_with s g.left (s.position + length g.bytes) None) (over g.bytes buf)

  piece_as : (g : Gathered E) (w l : List ℕ) (e : Result E Error) → g.bytes ≡ w → bytes_in g.left ≡ l → g.ending ≡ e
      → length w + length l ≡ length (bytes_of s.stream) + ahead → ahead ≤ length w
      → AnswersAs plain told s (returned (plain (answer w e)) w (s.position + length w) l) (answered g)
  piece_as g w l e bytes left ending count short = record {
    answer = ap (λ v. plain (answer v g.ending)) bytes ∙ ap (λ v. plain (answer w v)) ending;
    written = ap (λ x. x.0) (tells g.bytes g.ending) ∙ ap length bytes;
    front = ap (λ x. take x.0 (over g.bytes buf)) (tells g.bytes g.ending) ∙ take-append_seam g.bytes (drop (length g.bytes) buf) ∙ bytes;
    taken = omega (arith, ap (λ x. x.1) (tells g.bytes g.ending), ap length bytes);
    position = ap (λ v. s.position + length v) bytes;
    left = left;
    tail = refl;
  }

  -- by the cut, with the bytes bs among the items
  module _ (so_far : List ℕ) (p : ℕ) (is : List Item) (bs : List ℕ) (same : bytes_in is ≡ bs) (patient : waits_in is ≤ p)
      (count : length so_far + length bs ≡ length (bytes_of s.stream) + ahead) (short : ahead ≤ length so_far) where
    abbrev pub gathering : Cut E → Outcome B
    gathering c = answered (gather c (length buf) so_far p is s.stream.tail)

    pub cut_as : (c : Cut E) → Inside c bs → length (piece c so_far bs) ≤ length buf
        → (r : Result A Error) → plain (answer (piece c so_far bs) (cut_ending c (piece c so_far bs) s.stream.tail)) ≡ r
        → AnswersAs plain told s (returned r (piece c so_far bs) (s.position + length (piece c so_far bs)) (drop (cut_length c bs) bs)) (gathering c)
    cut_as c h room r e =
        let n = cut_length c bs in
        let w = piece c so_far bs in
        let fits : n ≤ length bs = within c h in
        let long : length w ≡ length so_far + n = simp (length-append, length-take) (omega arith) in
        let off = gather_cuts_in c (length buf) so_far p is bs s.stream.tail same h patient (omega arith) in
        subst (λ v. AnswersAs plain told s (returned v w (s.position + length w) (drop n bs)) (gathering c)) e
        (piece_as (gather c (length buf) so_far p is s.stream.tail) w (drop n bs) (cut_ending c w s.stream.tail) off.bytes off.left off.ending (omega (arith, length-drop n bs)) (omega arith))
      where
        within : (c : Cut E) → Inside c bs → cut_length c bs ≤ length bs
        within (before k e) h = omega arith
        within (through k e) h = omega arith
        within (nowhere due) h = omega arith

plain-taking : {A : Type 0} (w : ℕ) (r : Result A Error) → plain_answer (taking w r) ≡ r
plain-taking w (Ok a) = refl
plain-taking w (Err e) = refl

text_tells : (w : List ℕ) (e : Result TextEnd Error) → counts (text_told (text_reading.answer w e)) ≡ (length w, length w - 0)
text_tells w e = text-counts w e ∙ ap (λ k. (length w, k)) (omega arith)

module _ (s : State) (buf : List ℕ) (p : ℕ) (patient : waits_in s.stream.items ≤ p) where
  abbrev text_from : Cut TextEnd → Outcome (Result ReadText Refusal)
  text_from c = read_piece text_reading s buf p (gather c (length buf) [] p s.stream.items s.stream.tail)

  text_cut_as : (c : Cut TextEnd) → Inside c (bytes_of s.stream) → length (piece c [] (bytes_of s.stream)) ≤ length buf → (r : Result ReadText Error)
      → chain (cut_ending c (piece c [] (bytes_of s.stream)) s.stream.tail) (text_piece (piece c [] (bytes_of s.stream))) ≡ r
      → AnswersAs plain_answer text_told s (returned r (piece c [] (bytes_of s.stream)) (s.position + length (piece c [] (bytes_of s.stream))) (drop (cut_length c (bytes_of s.stream)) (bytes_of s.stream))) (text_from c)
  text_cut_as c h room r e =
      cut_as plain_answer text_told text_reading.answer 0 text_tells s buf [] p s.stream.items (bytes_of s.stream) refl patient (omega arith) (omega arith) c h room r
      (plain-taking (length (piece c [] (bytes_of s.stream))) (chain (cut_ending c (piece c [] (bytes_of s.stream)) s.stream.tail) (text_piece (piece c [] (bytes_of s.stream)))) ∙ e)

  text_by_as : (o : Option ℕ) → ((i : ℕ) → o ≡ Some i → i < length (bytes_of s.stream)) → length (text_by o (bytes_of s.stream) s.stream.tail s.position).bytes ≤ length buf
      → AnswersAs plain_answer text_told s (text_by o (bytes_of s.stream) s.stream.tail s.position) (text_from (text_cut_by o (bytes_of s.stream)))
  text_by_as None inside room =
      let w = take (length (bytes_of s.stream)) (bytes_of s.stream) in
      text_cut_as (nowhere (λ _. text_end.Eof)) tt room (at_tail s.stream.tail (text_of text.UpToEof w)) (tail_ends (λ _. text_end.Eof) w (text_piece w) s.stream.tail)
  text_by_as (Some zero) inside room =
      let b = get_or (bytes_of s.stream) 0 0 in
      let stays : s.position + 0 ≡ s.position = omega arith in
      let r = Ok (cond (eqb b 60) text.Markup text.Ref) in
      subst (λ q. AnswersAs plain_answer text_told s (returned r [] q (bytes_of s.stream)) (text_from (before 0 (text_end_at b)))) stays
      (text_cut_as (before 0 (text_end_at b)) (inside 0 refl) room r (go (eqb b 60)))
    where
      go : (v : Bool) → text_piece [] (cond v text_end.Markup text_end.Ref) ≡ Ok (cond v text.Markup text.Ref)
      go true = refl
      go false = refl
  text_by_as (Some (suc i)) inside room =
      let b = get_or (bytes_of s.stream) (suc i) 0 in
      let w = take (suc i) (bytes_of s.stream) in
      let lt : suc i < length (bytes_of s.stream) = inside (suc i) refl in
      let long : length w ≡ suc i = simp length-take (omega arith) in
      subst (λ c. AnswersAs plain_answer text_told s (text_by (Some (suc i)) (bytes_of s.stream) s.stream.tail s.position) (text_from c)) (sym (behind-before (suc i) (text_end_at b)))
      (text_cut_as (before (suc i) (text_end_at b)) lt room (text_of (cond (eqb b 60) text.UpToMarkup text.UpToRef) w) (ap (checked (judged w)) (go (eqb b 60) (length w) (omega arith))))
    where
      go : (v : Bool) (n : ℕ) → 0 < n → text_kind (cond v text_end.Markup text_end.Ref) n ≡ (cond v text.UpToMarkup text.UpToRef) n
      go v zero h = absurd (omega arith)
      go true (suc n) h = refl
      go false (suc n) h = refl

pub text_as : TextAsQuickXml
text_as s buf p opening enough =
    let bs = bytes_of s.stream in
    let rust = text_by (place text_sought bs) bs s.stream.tail s.position in
    subst (λ r. AnswersAs plain_answer text_told s rust (unless_early text_reading s buf p r)) (sym (admits s.position (length buf) pending.Nothing s.opening 0 enough.counts enough.size (ap (pends pending.Nothing) opening) (omega arith)))
    (subst (λ c. AnswersAs plain_answer text_told s rust (text_from s buf p enough.patient c)) (sym (text_cut-place bs))
    (text_by_as s buf p enough.patient (place text_sought bs) (place_inside text_sought bs) enough.room))

ref_tells : (w : List ℕ) (e : Result RefEnd Error) → counts (ref_told (ref_reading.answer w e)) ≡ (length w, length w - 0)
ref_tells w e = ref-counts w e ∙ ap (λ k. (length w, k)) (omega arith)

module _ (s : State) (buf : List ℕ) (p : ℕ) (patient : waits_in s.stream.items ≤ p) where
  abbrev ref_from : Cut RefEnd → Outcome (Result ReadRef Refusal)
  ref_from c = read_piece ref_reading s buf p (gather c (length buf) [] p s.stream.items s.stream.tail)

  -- with the bytes bs in the source
  module _ (bs : List ℕ) (same : bytes_of s.stream ≡ bs) where
    ref_cut_as : (c : Cut RefEnd) → Inside c bs → length (piece c [] bs) ≤ length buf → (r : Result ReadRef Error)
        → chain (cut_ending c (piece c [] bs) s.stream.tail) (ref_piece (piece c [] bs)) ≡ r
        → AnswersAs plain_answer ref_told s (returned r (piece c [] bs) (s.position + length (piece c [] bs)) (drop (cut_length c bs) bs)) (ref_from c)
    ref_cut_as c h room r e =
        cut_as plain_answer ref_told ref_reading.answer 0 ref_tells s buf [] p s.stream.items bs same patient (omega (arith, ap length same)) (omega arith) c h room r
        (plain-taking (length (piece c [] bs)) (chain (cut_ending c (piece c [] bs) s.stream.tail) (ref_piece (piece c [] bs))) ∙ e)

  ref_none_as : bytes_of s.stream ≡ [] → AnswersAs plain_answer ref_told s (rust_read_ref [] s.stream.tail s.position) (ref_from (ref_cut []))
  ref_none_as same =
      let r = at_tail s.stream.tail (text_of ref.UpToEof []) in
      let stays : s.position + 0 ≡ s.position = omega arith in
      subst (λ q. AnswersAs plain_answer ref_told s (returned r [] q []) (ref_from (ref_cut []))) stays
      (ref_cut_as [] same (ref_cut []) tt (omega arith) r (tail_ends (λ _. ref_end.Eof) [] (ref_piece []) s.stream.tail))

  module _ (bs : List ℕ) (same : bytes_of s.stream ≡ 38 ∷ bs) where
    -- a byte that is sought stands at place i: whether it is `;`
    abbrev ref_split : ℕ → Bool → Returned ReadRef
    ref_split i v =
        cond v (appending (38 ∷ []) (suc i) bs s.position (text_of ref.Ref))
        (appending (38 ∷ []) i bs s.position (text_of (cond (eqb (get_or bs i 0) 38) ref.UpToRef ref.UpToMarkup)))

    ref_split_as : (i : ℕ) → i < length bs → (v : Bool) → length (ref_split i v).bytes ≤ length buf
        → AnswersAs plain_answer ref_told s (ref_split i v) (ref_from (behind_one (behind i (cond v (through 0 ref_end.Semicolon) (before 0 (name_end_at (get_or bs i 0)))))))
    ref_split_as i lt true room =
        subst (λ c. AnswersAs plain_answer ref_told s (ref_split i true) (ref_from (behind_one c))) (sym (behind_through i ref_end.Semicolon))
        (ref_cut_as (38 ∷ bs) same (through (suc i) ref_end.Semicolon) (omega arith) room (text_of ref.Ref (38 ∷ take (suc i) bs)) refl)
    ref_split_as i lt false room =
        subst (λ c. AnswersAs plain_answer ref_told s (ref_split i false) (ref_from (behind_one c))) (sym (behind-before i (name_end_at (get_or bs i 0))))
        (ref_cut_as (38 ∷ bs) same (before (suc i) (name_end_at (get_or bs i 0))) (omega arith) room (text_of (cond (eqb (get_or bs i 0) 38) ref.UpToRef ref.UpToMarkup) (38 ∷ take i bs)) (go (38 ∷ take i bs) (eqb (get_or bs i 0) 38)))
      where
        go : (w : List ℕ) (v : Bool) → ref_piece w (cond v ref_end.Ref ref_end.Markup) ≡ text_of (cond v ref.UpToRef ref.UpToMarkup) w
        go w true = refl
        go w false = refl

    ref_by_as : (o : Option ℕ) → ((i : ℕ) → o ≡ Some i → i < length bs) → length (ref_by o bs s.stream.tail s.position).bytes ≤ length buf
        → AnswersAs plain_answer ref_told s (ref_by o bs s.stream.tail s.position) (ref_from (behind_one (name_cut_by o bs)))
    ref_by_as None inside room =
        let w = 38 ∷ take (length bs) bs in
        ref_cut_as (38 ∷ bs) same (nowhere (λ _. ref_end.Eof)) tt room (at_tail s.stream.tail (text_of ref.UpToEof w)) (tail_ends (λ _. ref_end.Eof) w (ref_piece w) s.stream.tail)
    ref_by_as (Some i) inside room = ref_split_as i (inside i refl) (eqb (get_or bs i 0) 59) room

  abbrev RefHolds : List ℕ → Type 0
  RefHolds l = AnswersAs plain_answer ref_told s (rust_read_ref l s.stream.tail s.position) (ref_from (ref_cut l))

  ref_some_as : (bs : List ℕ) → bytes_of s.stream ≡ 38 ∷ bs → length (rust_read_ref (bytes_of s.stream) s.stream.tail s.position).bytes ≤ length buf → RefHolds (bytes_of s.stream)
  ref_some_as bs same room =
      subst RefHolds (sym same)
      (subst (λ c. AnswersAs plain_answer ref_told s (rust_read_ref (38 ∷ bs) s.stream.tail s.position) (ref_from (behind_one c))) (sym (name_cut-place bs))
      (ref_by_as bs same (place name_sought bs) (place_inside name_sought bs) (subst (λ l. length (rust_read_ref l s.stream.tail s.position).bytes ≤ length buf) same room)))

pub ref_as : RefAsQuickXml
ref_as s buf p opening least begins enough =
    subst (λ r. AnswersAs plain_answer ref_told s (rust_read_ref (bytes_of s.stream) s.stream.tail s.position) (unless_early ref_reading s buf p r))
    (sym (admits s.position (length buf) pending.Nothing s.opening 1 enough.counts enough.size (ap (pends pending.Nothing) opening) least))
    (elim begins [
      | inl at ↦ ref_some_as s buf p enough.patient at.0 at.1 enough.room
      | inr none ↦ subst (RefHolds s buf p enough.patient) (sym none) (ref_none_as s buf p enough.patient none)
    ])

-- a call whose `<` was taken before
turned_spending : (T : Type 0) {A : Type 0} (w : ℕ) (r : Result A Error) → plain_turned {T = T} (spending w r) ≡ r
turned_spending T w (Ok a) = refl
turned_spending T w (Err e) = refl

scan_long : {A : Type 0} (f : ℕ → A) (v : Verdict) (pushed bs : List ℕ) (t : Tail) (q : ℕ) → length pushed ≤ length (scan_by v pushed f bs t q).bytes
scan_long f (stop k) pushed bs t q = simp length-append (omega arith)
scan_long f (unclosed due) pushed bs t q = simp length-append (omega arith)

-- a call that reads what a scanner ends
module _ {A B : Type 0} (plain : B → Result A Error) (told : B → Told) (answer : List ℕ → Result (Result (Unit {0}) SyntaxError) Error → B)
    (tells : (w : List ℕ) (e : Result (Result (Unit {0}) SyntaxError) Error) → counts (told (answer w e)) ≡ one_before w)
    (f : ℕ → A) (ends : (w : List ℕ) → plain (answer w (Ok (Ok tt))) ≡ text_of f w) (unended : (w : List ℕ) (e : SyntaxError) → plain (answer w (Ok (Err e))) ≡ Err (Syntax e))
    (fails : (w : List ℕ) (x : Fault) → plain (answer w (Err (Io x))) ≡ Err (Io x)) (s : State) (buf : List ℕ) where
  scan_as : (v : Verdict) (pushed : List ℕ) (p : ℕ) (is : List Item) (bs : List ℕ) → bytes_in is ≡ bs → waits_in is ≤ p
      → length pushed + length bs ≡ length (bytes_of s.stream) + 1 → 1 ≤ length pushed → ((k : ℕ) → v ≡ stop k → k < length bs)
      → length (scan_by v pushed f bs s.stream.tail s.position).bytes ≤ length buf
      → AnswersAs plain told s (scan_by v pushed f bs s.stream.tail s.position) (answered plain told answer 1 tells s buf (gather (verdict_cut v) (length buf) pushed p is s.stream.tail))
  scan_as (stop k) pushed p is bs same patient count short inside room =
      let w = pushed ++ take (suc k) bs in
      cut_as plain told answer 1 tells s buf pushed p is bs same patient count short (through k (Ok tt)) (inside k refl) room (text_of f w) (ends w)
  scan_as (unclosed due) pushed p is bs same patient count short inside room =
      let w = pushed ++ take (length bs) bs in
      cut_as plain told answer 1 tells s buf pushed p is bs same patient count short (nowhere (λ c. Err (due c))) tt room (at_tail s.stream.tail (Err (Syntax (due w)))) (go w s.stream.tail)
    where
      go : (w : List ℕ) (t : Tail) → plain (answer w (cut_ending (nowhere (λ c. Err (due c))) w t)) ≡ at_tail t (Err (Syntax (due w)))
      go w end = unended w (due w)
      go w (fault x) = fails w x

module _ {T : Type 0} (token : T) where
  pub with_as : WithAsQuickXml token
  with_as m ends s buf p opening enough =
      let bs = bytes_of s.stream in
      subst (λ r. AnswersAs plain_turned with_told s (rust_read_with m bs s.stream.tail s.position) (unless_early (with_reading token m) s buf p r))
      (sym (admits s.position (length buf) pending.Opening s.opening 1 enough.counts enough.size (pending_some s.opening opening) (omega (arith, enough.room, scan_long (λ n. n) (m bs) (60 ∷ []) bs s.stream.tail s.position))))
      (scan_as plain_turned with_told (with_reading token m).answer (λ w. scanned_counts w (spending (length w)) (λ r. counts (with_told {T = T} r)) (λ _. refl) refl) (λ n. n) (λ w. turned_spending T (length w) (text_of (λ n. n) w)) (λ w e. refl) (λ w x. refl) s buf
      (m bs) (60 ∷ []) p s.stream.items bs refl enough.patient (omega arith) (omega arith) (λ k e. (ends bs k e).0) enough.room)
    where
      pending_some : (o : Option ℕ) → is_some o ≡ true → pends pending.Opening o ≡ Ok tt
      pending_some None e = cc
      pending_some (Some b) e = refl

  peek_behind_as : (s : State) (v : Result (Option ℕ) Error) (is : List Item) (bs : List ℕ) → bytes_in is ≡ bs → suc (length bs) ≡ length (bytes_of s.stream)
      → AnswersAs plain_peeked peek_told s (returned v [] s.position bs) (peek_behind token s v is)
  peek_behind_as s (Ok (Some b)) is bs same count = record { answer = refl; written = refl; front = refl; taken = omega arith; position = refl; left = same; tail = refl }
  peek_behind_as s (Ok None) is bs same count = record { answer = refl; written = refl; front = refl; taken = omega arith; position = refl; left = same; tail = refl }
  peek_behind_as s (Err e) is bs same count = record { answer = refl; written = refl; front = refl; taken = omega arith; position = refl; left = same; tail = refl }

  pub peek_as : PeekAsQuickXml token
  peek_as s p opening begins enough =
      let t = s.stream.tail in
      let bs = begins.0 in
      let a = await p s.stream.items t in
      let stands = await-behind p s.stream.items t 60 bs begins.1 enough.patient in
      let rust = returned (first bs t) [] s.position bs in
      subst (λ r. AnswersAs plain_peeked peek_told s (rust_peek_one (bytes_of s.stream) t s.position) (peek_unless token s r p))
      (sym (admits s.position 0 pending.Nothing s.opening 0 enough.counts (omega arith) (ap (pends pending.Nothing) opening) (omega arith)))
      (subst (λ l. AnswersAs plain_peeked peek_told s (rust_peek_one l t s.position) (peek_first token s a.first a.left a.patience)) (sym begins.1)
      (subst (λ r. AnswersAs plain_peeked peek_told s rust (peek_first token s r a.left a.patience)) (sym stands.0)
      (subst (λ r. AnswersAs plain_peeked peek_told s rust (peek_behind token s r (await a.patience (drop 1 a.left) t).left)) (sym stands.1.first_is)
      (peek_behind_as s (first bs t) (await a.patience (drop 1 a.left) t).left bs stands.1.left (omega (arith, ap length begins.1))))))

  -- behind the `!`
  module _ (s : State) (buf : List ℕ) (is : List Item) (q : ℕ) (bs : List ℕ) (same : bytes_in is ≡ bs) (patient : waits_in is ≤ q) (count : suc (length bs) ≡ length (bytes_of s.stream)) where
    bang_stuck_as : (e : Error) → AnswersAs plain_turned bang_told s (returned (Err e) (60 ∷ 33 ∷ []) s.position bs) (bang_stuck token s buf bang_prefix 1 e is)
    bang_stuck_as e = record { answer = refl; written = refl; front = refl; taken = omega arith; position = refl; left = same; tail = refl }

    bang_named_as : (r : Result BangType Error) → length (bang_by r bs s.stream.tail s.position).bytes ≤ length buf
        → AnswersAs plain_turned bang_told s (bang_by r bs s.stream.tail s.position) (bang_named token s buf r is q)
    bang_named_as (Err e) room = bang_stuck_as e
    bang_named_as (Ok b) room =
        let k = kind_of b in
        subst (λ l. AnswersAs plain_turned bang_told s (bang_by (Ok b) bs s.stream.tail s.position) (bang_piece token s buf k (gather (verdict_cut (bang b l)) (length buf) bang_prefix q is s.stream.tail))) (sym same)
        (scan_as plain_turned bang_told (λ w e. spending (length w) (with_kind k (chain e (with_piece w)))) (λ w. scanned_counts w (λ r. spending {T = T} (length w) (with_kind k r)) (λ r. counts (bang_told r)) (λ _. refl) refl) (λ n. (k, n)) (λ w. go k (length w) (judged w)) (λ w e. refl) (λ w x. refl) s buf
        (bang b bs) bang_prefix q is bs same patient (omega arith) (omega arith) (λ j e. (bang-prefix b bs j e).0) room)
      where
        go : (k : BangKind) (n : ℕ) (v : Result (Unit {0}) Utf8Error) → plain_turned {T = T} (spending n (with_kind k (checked v n))) ≡ checked v (k, n)
        go k n (Ok u) = refl
        go k n (Err e) = refl

  bang_long : (v : Result BangType Error) (bs : List ℕ) (t : Tail) (q : ℕ) → 2 ≤ length (bang_by v bs t q).bytes
  bang_long (Ok b) bs t q = scan_long (λ n. (kind_of b, n)) (bang b bs) (60 ∷ 33 ∷ []) bs t q
  bang_long (Err e) bs t q = omega arith

  pub bang_as : BangAsQuickXml token
  bang_as s buf p opening begins enough =
      let t = s.stream.tail in
      let bs = begins.0 in
      let a = await p s.stream.items t in
      let b = await a.patience (drop 1 a.left) t in
      let stands = await-behind p s.stream.items t 33 bs begins.1 enough.patient in
      let rust = bang_by (chain (first bs t) bang_of) bs t s.position in
      let room : length rust.bytes ≤ length buf = subst (λ l. length (rust_read_bang_element l t s.position).bytes ≤ length buf) begins.1 enough.room in
      subst (λ r. AnswersAs plain_turned bang_told s (rust_read_bang_element (bytes_of s.stream) t s.position) (bang_unless token s buf r p))
      (sym (admits s.position (length buf) pending.Bang s.opening 2 enough.counts enough.size (ap (pends pending.Bang) opening) (omega (arith, bang_long (chain (first bs t) bang_of) bs t s.position))))
      (subst (λ l. AnswersAs plain_turned bang_told s (rust_read_bang_element l t s.position) (bang_first token s buf a.first a.left a.patience)) (sym begins.1)
      (subst (λ r. AnswersAs plain_turned bang_told s rust (bang_first token s buf r a.left a.patience)) (sym stands.0)
      (subst (λ r. AnswersAs plain_turned bang_told s rust (bang_named token s buf (chain r bang_of) b.left b.patience)) (sym stands.1.first_is)
      (bang_named_as s buf b.left b.patience bs stands.1.left stands.1.patient (omega (arith, ap length begins.1)) (chain (first bs t) bang_of) room))))
