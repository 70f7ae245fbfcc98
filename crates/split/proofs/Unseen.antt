-- What follows the item at which a piece ended does not matter. Assumes nothing.
use Rattle.std.proofs.Common.{◌≡◌, ℕ, ◌<◌, ◌≤◌, ◌⊎◌, List, [], ◌∷◌, ◌++◌, length, Ok, Err, sym, ap, ◌∙◌, subst, inl, inr, append_assoc, arith, length-append}
use mathlib.Core.List.{append_cancel_right}
use lib.Seq.{append_snoc}
use Rattle.source.specs.Stream.{Item, byte, wait, Tail, bytes_in}
use Rattle.model.specs.Cut.{Cut, before, through, nowhere}
use Rattle.model.specs.Gather.{Gathered, gathered}
use Rattle.errors.specs.declared.Error.TheVariants.{BufferFull}
use Rattle.split.specs.Piece.{count, Open, Holds, Ends, before_byte, with_byte, at_end, at_fault, at_wait, at_full}
use Rattle.split.specs.Lawful.{Settles, Lawful, Unseen}
use Rattle.split.proofs.Pieces.{bytes_append}

count-append : (xs ys : List Item) → count xs ≤ count (xs ++ ys)
count-append xs ys = omega (arith, ap length (bytes_append xs ys), length-append (bytes_in xs) (bytes_in ys))

count_byte : (xs : List Item) (b : ℕ) → count xs < count (xs ++ byte b ∷ [])
count_byte xs b = omega (arith, ap length (bytes_append xs (byte b ∷ [])), length-append (bytes_in xs) (b ∷ []))

module _ {E : Type 0} where
  open_less : (c : Cut E) (m n : ℕ) → m ≤ n → Open c n → Open c m
  open_less (before k e) m n l h = omega arith
  open_less (through k e) m n l h = omega arith
  open_less (nowhere due) m n l h = tt

  open_holds : (c : Cut E) (m n : ℕ) → m < n → Open c n → Holds c m
  open_holds (before k e) m n l h = omega arith
  open_holds (through k e) m n l h = omega arith
  open_holds (nowhere due) m n l h = tt

  -- two cuts that are one, or both come behind n bytes
  abbrev Same : Cut E → Cut E → ℕ → Type 0
  Same c d n = (c ≡ d) ⊎ (Open c n × Open d n)

  settled : (x c d : Cut E) (n : ℕ) → Settles x n c → Settles x n d → Same c d n
  settled (before k e) c d n h j = inl (h ∙ sym j)
  settled (through k e) c d n h j = inl (h ∙ sym j)
  settled (nowhere due) c d n h j = inr (h, j)

  module _ (c d : Cut E) (m n : ℕ) where
    same_before : (e : E) → Same c d n → m < n → c ≡ before m e → d ≡ before m e
    same_before e (inl r) l q = sym r ∙ q
    same_before e (inr h) l q = let no : n ≤ m = subst (λ x. Open x n) q h.0 in absurd (omega arith)

    same_through : (e : E) → Same c d n → m < n → c ≡ through m e → d ≡ through m e
    same_through e (inl r) l q = sym r ∙ q
    same_through e (inr h) l q = let no : n ≤ m = subst (λ x. Open x n) q h.0 in absurd (omega arith)

    same_open : Same c d n → m ≤ n → Open c m → Open d m
    same_open (inl r) l o = subst (λ x. Open x m) r o
    same_open (inr h) l o = open_less d m n l h.1

    same_holds : Same c d n → m < n → Holds c m → Holds d m
    same_holds (inl r) l o = subst (λ x. Holds x m) r o
    same_holds (inr h) l o = open_holds d m n l h.1

  module _ (c d : Cut E) (size p : ℕ) (t u : Tail) (i : Item) (is rest other : List Item) where
    -- the byte that comes next is the item that is left
    next_byte : (met js : List Item) (b : ℕ) → byte b ∷ js ≡ i ∷ (is ++ rest) → (byte b ≡ i) × (count met < count (met ++ i ∷ []))
    next_byte met js b l =
        let same : byte b ≡ i = cc in (same, subst (λ x. count met < count (met ++ x ∷ [])) same (count_byte met b))

    ends_unseen : {met : List Item} {g : Gathered E} → Ends c size p t met g → g.left ≡ i ∷ (is ++ rest) → Same c d (count (met ++ i ∷ []))
        → Ends d size p u met (gathered g.bytes (i ∷ (is ++ other)) g.ending)
    ends_unseen (before_byte met {is = js} {bs = bs} {b = b} {e = e} q w) l s =
        let k = next_byte met js b l in
        subst (λ x. Ends d size p u met (gathered bs (x ∷ (is ++ other)) (Ok e))) k.0
        (before_byte met (same_before c d (count met) (count (met ++ i ∷ [])) e s k.1 q) w)
    ends_unseen (with_byte met b {e = e} q w) l s =
        let more : count met < count ((met ++ byte b ∷ []) ++ i ∷ []) = omega (arith, count_byte met b, count-append (met ++ byte b ∷ []) (i ∷ [])) in
        with_byte met b (same_through c d (count met) _ e s more q) w
    ends_unseen (at_end met q w h) l s = cc
    ends_unseen (at_fault met q w h) l s = cc
    ends_unseen (at_wait met o w) l s =
        let more : count met ≤ count ((met ++ wait ∷ []) ++ i ∷ []) = omega (arith, count-append met (wait ∷ []), count-append (met ++ wait ∷ []) (i ∷ [])) in
        at_wait met (same_open c d (count met) _ s more o) w
    ends_unseen (at_full met {is = js} {bs = bs} {b = b} o w f) l s =
        let k = next_byte met js b l in
        subst (λ x. Ends d size p u met (gathered bs (x ∷ (is ++ other)) (Err BufferFull))) k.0
        (at_full met (same_holds c d (count met) (count (met ++ i ∷ [])) s k.1 o) w f)

pub unseen : {E : Type 0} (cut : List ℕ → Cut E) → Lawful cut → Unseen cut
unseen cut law size so_far p front rest other t u i is g h l =
    let met = h.met in
    let seen = met ++ i ∷ [] in
    let front-is : front ≡ met ++ i ∷ is =
    append_cancel_right front (met ++ i ∷ is) rest (h.split ∙ ap (λ x. met ++ x) l ∙ sym (append_assoc met (i ∷ is) rest)) in
    let split : (js : List Item) → front ++ js ≡ met ++ (i ∷ (is ++ js)) = λ js. ap (λ x. x ++ js) front-is ∙ append_assoc met (i ∷ is) js in
    let settles : (js : List Item) → Settles (cut (bytes_in seen)) (count seen) (cut (bytes_in (front ++ js))) = λ js.
    subst (λ bs. Settles (cut (bytes_in seen)) (count seen) (cut bs))
    (sym (ap bytes_in (split js ∙ sym (append_snoc met i (is ++ js))) ∙ bytes_append seen (is ++ js)))
    (law.settles (bytes_in seen) (bytes_in (is ++ js))) in
    record {
      met = met;
      split = split other;
      bytes = h.bytes;
      fits = h.fits;
      why = ends_unseen _ _ size p t u i is rest other h.why l (settled _ _ _ _ (settles rest) (settles other));
    }
