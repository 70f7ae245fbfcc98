-- next_piece is nothing but the reader's calls.
use Rattle.std.proofs.Common.{◌≡◌, ℕ, zero, suc, ◌+◌, ◌≤◌, Bool, true, false, cond, eqb, List, [], ◌∷◌, ◌++◌, length, drop, Some, None, Ok, Err, Option, Result, sym, refl, ap, ◌∙◌, subst, append_assoc, append-nil, arith}
use Rattle.source.specs.Stream.{Item, bytes_in, bytes_of}
use Rattle.parser.specs.Scan.{Meaning}
use Rattle.bang.specs.Bang.{bang}
use Rattle.parser.specs.Element.{element}
use Rattle.parser.specs.Pi.{pi, after_question}
use Rattle.bang.specs.declared.bang.BangType.{BangType}
use Rattle.parser.specs.declared.element.ElementParser.TheVariants.{Outside}
use Rattle.parser.specs.declared.errors.SyntaxError.{SyntaxError}
use Rattle.utf8.specs.Utf8.{judged}
use Rattle.utf8.specs.declared.Utf8Error.{Utf8Error}
use Rattle.model.specs.Cut.{scan_cut}
use Rattle.model.specs.Gather.{gather}
use Rattle.model.specs.Call.{State, Outcome, outcome, admitted, chain, checked, with_piece, spending, reads, unless_early, text_reading, ref_reading, with_reading}
use Rattle.model.specs.Peek.{await, peeks}
use Rattle.model.specs.Bang.{kind_of, with_kind, bang_prefix, bangs, bang_unless, bang_of, bang_first, bang_named}
use Rattle.model.specs.History.{Event, Call, event, answering, read_text, read_ref, peek_one, read_with, read_bang_element, does, History, fresh, more}
use Rattle.model.specs.Told.{told}
use Rattle.model.specs.declared.answer.Answer.TheVariants as answer
use Rattle.model.specs.declared.answer.ReadText.{ReadText}
use Rattle.model.specs.declared.answer.ReadText.TheVariants as text
use Rattle.model.specs.declared.answer.ReadRef.{ReadRef}
use Rattle.model.specs.declared.answer.ReadRef.TheVariants as ref
use Rattle.model.specs.declared.answer.BangKind.{BangKind}
use Rattle.model.specs.declared.answer.Refusal.{Refusal}
use Rattle.model.specs.declared.answer.Refused.{Refused}
use Rattle.model.specs.declared.answer.Refused.TheVariants.{Kept, Spent}
use Rattle.model.specs.declared.ending.Pending.TheVariants as pending
use Rattle.errors.specs.declared.Error.{Error}
use Rattle.laws.proofs.Gathers.{gather_grows}
use Rattle.laws.proofs.Reports.{report_whole}
use Rattle.reader.specs.State.{the_token}
use Rattle.reader.specs.Token.{OpeningToken}
use Rattle.piece.specs.Next.{Next, next_told, of_text, of_ref, of_with, of_bang, by_byte, behind_opening, at_markup, at_ref, behind_text, next_unless, nexts}
use Rattle.piece.specs.declared.kinds.Kind.{Kind}
use Rattle.piece.specs.declared.kinds.Kind.TheVariants.{Tag, Pi}
use Rattle.piece.specs.Calls.{ByCalls, PieceContinues}

-- one history after another
join : {made s t : State} {es fs : List (Event OpeningToken)} → History the_token made es s → History the_token s fs t → History the_token made (es ++ fs) t
join {made} {s} {es = es} h fresh = subst (λ x. History the_token made x s) (sym (append-nil es)) h
join {made} {es = es} h (more {es = fs} {s = u} k c) =
    let e = event c (does the_token u c).answer (does the_token u c).buffer in
    subst (λ x. History the_token made x (does the_token u c).after) (append_assoc es fs (e ∷ [])) (more (join h k) c)

-- a construct has at least the byte that was written first
abbrev Grown : Result ℕ (Refused OpeningToken) → Type 0
Grown (Ok w) = 1 ≤ w
Grown (Err r) = Unit {0}

abbrev BangGrown : Result (BangKind × ℕ) (Refused OpeningToken) → Type 0
BangGrown (Ok (k, w)) = 1 ≤ w
BangGrown (Err r) = Unit {0}

module _ (bs : List ℕ) (some : 1 ≤ length bs) where
  piece_grown : (r : Result (Unit {0}) SyntaxError) → Grown (spending (length bs) (with_piece bs r))
  piece_grown (Err e) = tt
  piece_grown (Ok u) = go (judged bs)
    where
      go : (j : Result (Unit {0}) Utf8Error) → Grown (spending (length bs) (checked j (length bs)))
      go (Ok v) = some
      go (Err e) = tt

  ending_grown : (e : Result (Result (Unit {0}) SyntaxError) Error) → Grown (spending (length bs) (chain e (with_piece bs)))
  ending_grown (Ok r) = piece_grown r
  ending_grown (Err e) = tt

  kind_grown : (k : BangKind) (r : Result ℕ Error) → Grown (spending (length bs) r) → BangGrown (spending (length bs) (with_kind k r))
  kind_grown k (Ok w) h = h
  kind_grown k (Err e) h = tt

module _ (token : OpeningToken) (s : State) (buf : List ℕ) (p : ℕ) where
  with_grown : (m : Meaning) → Grown (reads (with_reading token m) s buf p).answer
  with_grown m = go (admitted s.position (length buf) pending.Opening s.opening 1)
    where
      go : (r : Result (Unit {0}) Error) → Grown (unless_early (with_reading token m) s buf p r).answer
      go (Err e) = tt
      go (Ok u) =
          let call = with_reading token m in
          let g = gather (call.cut (bytes_of s.stream)) (length buf) call.prefix p s.stream.items s.stream.tail in
          ending_grown g.bytes (gather_grows (call.cut (bytes_of s.stream)) (length buf) call.prefix p s.stream.items s.stream.tail) g.ending

  bang_grown : BangGrown (bangs token s buf p).answer
  bang_grown = unless (admitted s.position (length buf) pending.Bang s.opening 2)
    where
      named : (is : List Item) (q : ℕ) (r : Result BangType Error) → BangGrown (bang_named token s buf r is q).answer
      named is q (Err e) = tt
      named is q (Ok k) =
          let c = scan_cut (bang k) (bytes_in is) in
          let g = gather c (length buf) bang_prefix q is s.stream.tail in
          let grows = gather_grows c (length buf) bang_prefix q is s.stream.tail in
          let some : 1 ≤ length g.bytes = omega arith in
          kind_grown g.bytes some (kind_of k) (chain g.ending (with_piece g.bytes)) (ending_grown g.bytes some g.ending)

      first : (is : List Item) (q : ℕ) (r : Result (Option ℕ) Error) → BangGrown (bang_first token s buf r is q).answer
      first is q (Ok (Some b)) = let a = await q (drop 1 is) s.stream.tail in named a.left a.patience (chain a.first bang_of)
      first is q (Ok None) = tt
      first is q (Err e) = tt

      unless : (r : Result (Unit {0}) Error) → BangGrown (bang_unless token s buf r p).answer
      unless (Err e) = tt
      unless (Ok u) = let a = await p s.stream.items s.stream.tail in first a.left a.patience a.first

-- what an answer tells as taken, behind the `<` that peek_one took
with_taken : (k : Kind) (a : Result ℕ (Refused OpeningToken)) → Grown a → (told (answer.With a)).taken + 1 ≡ (next_told (of_with k a)).taken
with_taken k (Ok w) h = omega arith
with_taken k (Err (Kept e t)) h = refl
with_taken k (Err (Spent r)) h = refl

bang-taken : (a : Result (BangKind × ℕ) (Refused OpeningToken)) → BangGrown a → (told {T = OpeningToken} (answer.Bang a)).taken + 1 ≡ (next_told (of_bang a)).taken
bang-taken (Ok (k, w)) h = omega arith
bang-taken (Err (Kept e t)) h = refl
bang-taken (Err (Spent r)) h = refl

ref_taken : (a : Result ReadRef Refusal) → (told {T = OpeningToken} (answer.Ref a)).taken ≡ (next_told (of_ref a)).taken
ref_taken (Ok (ref.Ref w)) = refl
ref_taken (Ok (ref.UpToRef w)) = refl
ref_taken (Ok (ref.UpToMarkup w)) = refl
ref_taken (Ok (ref.UpToEof w)) = refl
ref_taken (Err r) = refl

module _ (s : State) (buf : List ℕ) (p : ℕ) where
  abbrev first_text : Outcome (Result ReadText Refusal)
  first_text = reads text_reading s buf p

  -- read_text alone
  text_alone : (a : Result ReadText Refusal) → first_text.answer ≡ a → (told {T = OpeningToken} (answer.Text a)).taken ≡ (next_told (of_text a)).taken
      → ByCalls s (outcome (of_text a) first_text.after first_text.buffer)
  text_alone a e same = record {
    events = event (read_text buf p) (answer.Text first_text.answer) first_text.buffer ∷ [];
    history = more fresh (read_text buf p);
    taken = let t = ap (λ x. (told {T = OpeningToken} (answer.Text x)).taken) e ∙ same in omega arith;
  }

  -- read_text, which took nothing, and one call more
  then : (c : Call OpeningToken) (o : Outcome Next) → (told {T = OpeningToken} (answer.Text first_text.answer)).taken ≡ 0
      → o.after ≡ (does the_token first_text.after c).after → (told (does the_token first_text.after c).answer).taken ≡ (next_told o.answer).taken → ByCalls s o
  then c o none after same = record {
    events = event (read_text buf p) (answer.Text first_text.answer) first_text.buffer ∷ event c (does the_token first_text.after c).answer (does the_token first_text.after c).buffer ∷ [];
    history = subst (History the_token s _) (sym after) (more (more fresh (read_text buf p)) c);
    taken = omega arith;
  }

  -- and a third behind peek_one
  third : (c : Call OpeningToken) (o : Outcome Next) (s₁ : State) → (told {T = OpeningToken} (answer.Text first_text.answer)).taken ≡ 0
      → (peeks the_token first_text.after p).after ≡ s₁ → (told (answer.Peek (peeks the_token first_text.after p).answer)).taken ≡ 1
      → o.after ≡ (does the_token s₁ c).after → (told (does the_token s₁ c).answer).taken + 1 ≡ (next_told o.answer).taken → ByCalls s o
  third c o s₁ none there peeked after same =
      let s₂ = (peeks the_token first_text.after p).after in
      let same₂ = rw (sym there) at same in
      let after₂ = rw (sym there) at after in
      record {
        events = event (read_text buf p) (answer.Text first_text.answer) first_text.buffer
            ∷ event (peek_one p) (answer.Peek (peeks the_token first_text.after p).answer) (peeks the_token first_text.after p).buffer
            ∷ event c (does the_token s₂ c).answer (does the_token s₂ c).buffer ∷ [];
        history = subst (History the_token s _) (sym after₂) (more (more (more fresh (read_text buf p)) (peek_one p)) c);
        taken = omega arith;
      }

  -- behind a text that took nothing
  module _ (none : (told {T = OpeningToken} (answer.Text first_text.answer)).taken ≡ 0) where
    ref_by : ByCalls s (at_ref first_text.buffer p first_text.after)
    ref_by = then (read_ref first_text.buffer p) (at_ref first_text.buffer p first_text.after) none refl (ref_taken (reads ref_reading first_text.after first_text.buffer p).answer)

    byte_by : (b : ℕ) (t : OpeningToken) → (peeks the_token first_text.after p).answer ≡ Ok (Some (b, t))
        → ByCalls s (by_byte first_text.buffer p b t (peeks the_token first_text.after p).after)
    byte_by b t e = go (eqb b 33) (eqb b 63)
      where
        s₁ : State
        s₁ = (peeks the_token first_text.after p).after

        peeked : (told (answer.Peek (peeks the_token first_text.after p).answer)).taken ≡ 1
        peeked = ap (λ x. (told (answer.Peek x)).taken) e

        bangs_by : ByCalls s (answering of_bang (bangs t (peeks the_token first_text.after p).after first_text.buffer p))
        bangs_by =
            third (read_bang_element t first_text.buffer p) _ _ none refl peeked refl
            (bang-taken (bangs t (peeks the_token first_text.after p).after first_text.buffer p).answer (bang_grown t (peeks the_token first_text.after p).after first_text.buffer p))

        with_by : (k : Kind) (m : Meaning) → ByCalls s (answering (of_with k) (reads (with_reading t m) (peeks the_token first_text.after p).after first_text.buffer p))
        with_by k m =
            third (read_with t m first_text.buffer p) _ _ none refl peeked refl
            (with_taken k (reads (with_reading t m) (peeks the_token first_text.after p).after first_text.buffer p).answer (with_grown t (peeks the_token first_text.after p).after first_text.buffer p m))

        go : (v w : Bool) → ByCalls s (cond v (answering of_bang (bangs t (peeks the_token first_text.after p).after first_text.buffer p))
            (cond w (answering (of_with Pi) (reads (with_reading t (pi (after_question false))) (peeks the_token first_text.after p).after first_text.buffer p))
            (answering (of_with Tag) (reads (with_reading t (element Outside)) (peeks the_token first_text.after p).after first_text.buffer p))))
        go true w = bangs_by
        go false true = with_by Pi (pi (after_question false))
        go false false = with_by Tag (element Outside)

    markup_by : ByCalls s (at_markup first_text.buffer p first_text.after)
    markup_by = go (peeks the_token first_text.after p).answer refl
      where
        alone : (o : Outcome Next) → o.after ≡ (peeks the_token first_text.after p).after
            → (told (answer.Peek (peeks the_token first_text.after p).answer)).taken ≡ (next_told o.answer).taken → ByCalls s o
        alone o after same = then (peek_one p) o none after same

        go : (r : Result (Option (ℕ × OpeningToken)) Refusal) → (peeks the_token first_text.after p).answer ≡ r
            → ByCalls s (behind_opening first_text.buffer p r (peeks the_token first_text.after p).after)
        go (Ok (Some (b, t))) e = byte_by b t e
        go (Ok None) e = alone _ refl (ap (λ x. (told (answer.Peek x)).taken) e)
        go (Err r) e = alone _ refl (ap (λ x. (told (answer.Peek x)).taken) e)

  text_by : (a : Result ReadText Refusal) → first_text.answer ≡ a → ByCalls s (behind_text p a first_text.after first_text.buffer)
  text_by (Ok (text.UpToMarkup w)) e = text_alone (Ok (text.UpToMarkup w)) e refl
  text_by (Ok (text.UpToRef w)) e = text_alone (Ok (text.UpToRef w)) e refl
  text_by (Ok (text.UpToEof zero)) e = text_alone (Ok (text.UpToEof zero)) e refl
  text_by (Ok (text.UpToEof (suc w))) e = text_alone (Ok (text.UpToEof (suc w))) e refl
  text_by (Ok text.Markup) e = markup_by (ap (λ x. (told {T = OpeningToken} (answer.Text x)).taken) e)
  text_by (Ok text.Ref) e = ref_by (ap (λ x. (told {T = OpeningToken} (answer.Text x)).taken) e)
  text_by (Err r) e = text_alone (Err r) e refl

  next_by : ByCalls s (nexts s buf p)
  next_by = go (admitted s.position (length buf) pending.Nothing s.opening 2)
    where
      go : (r : Result (Unit {0}) Error) → ByCalls s (next_unless r s buf p)
      go (Err e) = record { events = []; history = fresh; taken = refl }
      go (Ok u) = text_by first_text.answer refl

  -- what does as next_piece should continues every history
  pub piece_continues : (o : Outcome Next) → o ≡ nexts s buf p → PieceContinues s o
  piece_continues o e made es none h =
      let by = subst (ByCalls s) (sym e) next_by in
      let whole = join h by.history in
      record { calls = by; history = whole; whole = report_whole the_token made _ _ none whole }
