-- A machine that runs another one inside. Assumes nothing.
use Rattle.std.proofs.Common.{◌≡◌, ℕ, List, [], ◌∷◌, refl, ap, ◌∙◌}
use lib.Utf8.{encodes}
use Rattle.parser.specs.Bytes.{Move, halt, goes}
use Rattle.grammar.specs.Lang.{Lang}
use Rattle.grammar.proofs.Walks.{Machine, then, walk, walk-append, walk_byte}
use Rattle.grammar.proofs.Leads.{Leads}
use Rattle.grammar.proofs.Finishes.{Last, Finishes}

-- where the inner machine moves from state to state, so does the outer one
abbrev Embeds : (M N : Machine) → (M.State → N.State) → Type 0
Embeds M N f = (s t : M.State) (b : ℕ) → M.step s b ≡ goes t → N.step (f s) b ≡ goes (f t)

nested_walk : (M N : Machine) (f : M.State → N.State) → Embeds M N f → (s t : M.State) (bs : List ℕ) → walk M s bs ≡ goes t → walk N (f s) bs ≡ goes (f t)
nested_walk M N f embeds s t [] e = let same : s ≡ t = cc in ap (λ u. goes (f u)) same
nested_walk M N f embeds s t (b ∷ bs) e = go (λ u. nested_walk M N f embeds u t bs) (M.step s b) refl e
  where
    go : ((u : M.State) → walk M u bs ≡ goes t → walk N (f u) bs ≡ goes (f t)) → (m : Move M.State) → M.step s b ≡ m → then m (λ u. walk M u bs) ≡ goes t → walk N (f s) (b ∷ bs) ≡ goes (f t)
    go ih halt q r = absurd (cc)
    go ih (goes u) q r = ap (λ m. then m (λ v. walk N v bs)) (embeds s u b q) ∙ ih u r

-- where it ends with the inner one
pub finishes_nested : {M N : Machine} {s : M.State} {P : Lang} (f : M.State → N.State) → Embeds M N f → ((t : M.State) (b : ℕ) → M.step t b ≡ halt → N.step (f t) b ≡ halt) → Finishes M s P → Finishes N (f s) P
finishes_nested {M} {N} {s} {P} f embeds halts g = record { ends = at }
  where
    at : (xs : List ℕ) → P xs → Last N (f s) (encodes xs)
    at xs p =
        let end = g.ends xs p in
        record { front = end.front; last = end.last; state = f end.state; whole = end.whole; walks = nested_walk M N f embeds s end.state end.front end.walks; halts = halts end.state end.last end.halts }

-- where the inner one's end leads to u
pub leads_nested : {M N : Machine} {s : M.State} {u : N.State} {P : Lang} (f : M.State → N.State) → Embeds M N f → ((t : M.State) (b : ℕ) → M.step t b ≡ halt → N.step (f t) b ≡ goes u) → Finishes M s P → Leads N (f s) u P
leads_nested {M} {N} {s} {u} {P} f embeds halts g = record { walks = at }
  where
    at : (xs : List ℕ) → P xs → walk N (f s) (encodes xs) ≡ goes u
    at xs p =
        let end = g.ends xs p in
        ap (walk N (f s)) end.whole
        ∙ walk-append N (f s) (f end.state) end.front (end.last ∷ []) (nested_walk M N f embeds s end.state end.front end.walks)
        ∙ walk_byte N (f end.state) u end.last (halts end.state end.last end.halts)
