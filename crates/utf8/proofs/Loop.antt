-- The check's loop: how far it has come, and what each way out of it gives. Assumes nothing.
use Rattle.std.proofs.Common.{◌≡◌, ℕ, ◌+◌, ◌<◌, ◌≤◌, ◌⊎◌, List, [], ◌∷◌, ◌++◌, length, get_or, take, drop, Some, None, Ok, Err, Result, sym, ap, ◌∙◌, subst, inl, inr, ⊎_elim, append_assoc, append-nil, arith}
use Rattle.std.proofs.str.Laws.{order}
use Rattle.std.proofs.lemmas.List.{take_more, drop_more, take-append-drop, take-take, length-take-le, get_or-take}
use Rattle.utf8.proofs.Judged.{judges, whole, part}
use Rattle.utf8.proofs.States.{Rest, rest_octets, octets_rest, row_of, steps, refuses, not_lead}
use Rattle.utf8.specs.Utf8.{Octets, none, Longest, Checks, judged}
use Rattle.utf8.specs.Steps.{need_step}
use Rattle.utf8.specs.declared.Need.{Need}
use Rattle.utf8.specs.declared.Need.TheVariants.{Lead}
use Rattle.utf8.specs.declared.Utf8Error.{Utf8Error}

-- an answer, with both clauses of the check's contract
pub record Answer (bs : List ℕ) (r : Result (Unit {0}) Utf8Error) : Type 0 where
  pub value : r ≡ judged bs
  pub meaning : Checks bs r

answer : (bs : List ℕ) (r : Result (Unit {0}) Utf8Error) → Checks bs r → Answer bs r
answer bs r h = record { value = judges bs r h; meaning = h }

-- after i bytes the good front has the length good, and what n needs is due
pub record Reached (bs : List ℕ) (i good : ℕ) (n : Need) : Type 0 where
  pub inside : i ≤ length bs
  pub behind : good ≤ i
  pub to_rest : (zs : List ℕ) → Octets (take i bs ++ zs) → Rest (row_of n) zs
  pub from_rest : (zs : List ℕ) → Rest (row_of n) zs → Octets (take i bs ++ zs)
  pub front : Octets (take good bs)
  pub most : (m : ℕ) → m ≤ i → Octets (take m bs) → m ≤ good

reached_start : (bs : List ℕ) → Reached bs 0 0 Lead
reached_start bs = record { inside = omega arith; behind = omega arith; to_rest = octets_rest; from_rest = rest_octets; front = none; most = λ m le o. le }

module _ {bs : List ℕ} {i good : ℕ} {n : Need} (so : Reached bs i good n) where
  at_next : (m : Need) → i < length bs → need_step n (get_or bs i 0) ≡ Some m → (zs : List ℕ) → (Octets (take (i + 1) bs ++ zs) → Rest (row_of m) zs) × (Rest (row_of m) zs → Octets (take (i + 1) bs ++ zs))
  at_next m lt e zs =
      let same : take (i + 1) bs ++ zs ≡ take i bs ++ (get_or bs i 0 ∷ zs) = ap (λ l. l ++ zs) (take_more bs i 0 lt) ∙ append_assoc (take i bs) (get_or bs i 0 ∷ []) zs in
      let two = steps n (get_or bs i 0) m e zs in
      (λ o. two.0 (so.to_rest (get_or bs i 0 ∷ zs) (subst Octets same o)), λ r. subst Octets (sym same) (so.from_rest (get_or bs i 0 ∷ zs) (two.1 r)))

  last : (m : ℕ) → m ≤ i + 1 → (m ≤ i) ⊎ (m ≡ i + 1)
  last m le = ⊎_elim (λ lt. inl (omega arith)) (λ ge. inr (omega arith)) (order m (i + 1))

  whole_front : (m : Need) (lt : i < length bs) (e : need_step n (get_or bs i 0) ≡ Some m) → Octets (take (i + 1) bs) → Rest (row_of m) []
  whole_front m lt e o = (at_next m lt e []).0 (subst Octets (sym (append-nil (take (i + 1) bs))) o)

  reached_lead : i < length bs → need_step n (get_or bs i 0) ≡ Some Lead → Reached bs (i + 1) (i + 1) Lead
  reached_lead lt e = record {
    inside = omega arith;
    behind = omega arith;
    to_rest = λ zs. (at_next Lead lt e zs).0;
    from_rest = λ zs. (at_next Lead lt e zs).1;
    front = subst Octets (append-nil (take (i + 1) bs)) ((at_next Lead lt e []).1 (octets_rest [] none));
    most = λ m le o. le;
  }

  reached_due : (m : Need) → i < length bs → need_step n (get_or bs i 0) ≡ Some m → (Rest (row_of m) [] → ⊥) → Reached bs (i + 1) good m
  reached_due m lt e no' = record {
    inside = omega arith;
    behind = omega (arith, so.behind);
    to_rest = λ zs. (at_next m lt e zs).0;
    from_rest = λ zs. (at_next m lt e zs).1;
    front = so.front;
    most = λ k le o. ⊎_elim (λ below. so.most k below o) (λ same. absurd (no' (whole_front m lt e (subst (λ j. Octets (take j bs)) same o)))) (last k le);
  }

  -- no front past the byte at i, which fits nothing, is UTF-8
  cut_off : i < length bs → need_step n (get_or bs i 0) ≡ None → (m : ℕ) → i < m → m ≤ length bs → Octets (take m bs) → ⊥
  cut_off lt e m past le o =
      let long' : i < length (take m bs) = omega (arith, length-take-le m bs le) in
      let whole : take m bs ≡ take i bs ++ (get_or bs i 0 ∷ drop (i + 1) (take m bs)) =
      sym (take-append-drop i (take m bs))
      ∙ ap (λ l. l ++ drop i (take m bs)) (take-take i m bs (omega arith))
      ∙ ap (λ l. take i bs ++ l) (drop_more (take m bs) i 0 long' ∙ ap (λ x. x ∷ drop (i + 1) (take m bs)) (get_or-take m bs i 0 past)) in
      refuses n (get_or bs i 0) (drop (i + 1) (take m bs)) e (so.to_rest (get_or bs i 0 ∷ drop (i + 1) (take m bs)) (subst Octets whole o))

  longest_reached : ((m : ℕ) → i < m → m ≤ length bs → Octets (take m bs) → ⊥) → Longest bs good
  longest_reached none-past = record {
    inside = omega (arith, so.behind, so.inside);
    good = so.front;
    longest = λ m le o. ⊎_elim (λ past. absurd (none-past m past le o)) (λ at. so.most m at o) (order i m);
  }

  at_end : length bs ≤ i → Longest bs good
  at_end end = longest_reached (λ m past le o. omega arith)

-- how far the loop has come, with the answer at each way out of it
pub record Turn (bs : List ℕ) (i good : ℕ) (n : Need) : Type 0 where
  pub reached : Reached bs i good n
  pub at_refused : i < length bs → need_step n (get_or bs i 0) ≡ None → Answer bs (Err (record { valid_up_to = good }))
  pub at_whole : length bs ≤ i → good ≡ length bs → Answer bs (Ok tt)
  pub at_part : length bs ≤ i → (good ≡ length bs → ⊥) → Answer bs (Err (record { valid_up_to = good }))

turn : {bs : List ℕ} {i good : ℕ} {n : Need} → Reached bs i good n → Turn bs i good n
turn {bs} so = record {
  reached = so;
  at_refused = λ lt e. answer bs _ (part (longest_reached so (cut_off so lt e)) (λ same. omega (arith, so.behind)));
  at_whole = λ end e. answer bs _ (whole (at_end so end) e);
  at_part = λ end e. answer bs _ (part (at_end so end) e);
}

pub start : (bs : List ℕ) → Turn bs 0 0 Lead
start bs = turn (reached_start bs)

pub next-lead : {bs : List ℕ} {i good : ℕ} {n : Need} (t : Turn bs i good n) (m : Need) (g : ℕ) → i < length bs → Some m ≡ need_step n (get_or bs i 0) → m ≡ Lead → g ≡ i + 1 → Turn bs (i + 1) g m
next-lead {bs} {i} t m g lt e is at =
    turn (subst (λ k. Reached bs (i + 1) k m) (sym at) (subst (Reached bs (i + 1) (i + 1)) (sym is) (reached_lead t.reached lt (sym e ∙ ap Some is))))

pub next-due : {bs : List ℕ} {i good : ℕ} {n : Need} (t : Turn bs i good n) (m : Need) (g : ℕ) → i < length bs → Some m ≡ need_step n (get_or bs i 0) → (m ≡ Lead → ⊥) → g ≡ good → Turn bs (i + 1) g m
next-due {bs} {i} t m g lt e apart at = turn (subst (λ k. Reached bs (i + 1) k m) (sym at) (reached_due t.reached m lt (sym e) (not_lead m apart)))
