-- One turn of a listing.
use Rattle.std.proofs.Common.{◌≡◌, ℕ, suc, ◌+◌, ◌-◌, ◌<◌, true, false, cond, List, [], ◌∷◌, ◌++◌, sym, ap, ◌∙◌, append_assoc, append-nil, arith}
use Rattle.model.specs.Call.{State, outcome}
use Rattle.piece.specs.Next.{Next, nexts}
use Rattle.listing.specs.Listed.{line, closing, listed}
use Rattle.listing.specs.declared.line.Line.{Line}

-- the next answer, and what is left behind it
module _ (given all : List Line) (most i : ℕ) (s : State) (buf : List ℕ) (p : ℕ) (so_far : given ++ listed (most - i) s buf p ≡ all) (lt : i < most)
    (a : Next) (s' : State) (buf' : List ℕ) (e : outcome a s' buf' ≡ nexts s buf p) where
  turned : (given ++ line s.position a ∷ []) ++ cond (closing a) [] (listed (most - (i + 1)) s' buf' p) ≡ all
  turned =
      let m = most - (i + 1) in
      let more : suc m ≡ most - i = omega arith in
      append_assoc given (line s.position a ∷ []) (cond (closing a) [] (listed m s' buf' p))
      ∙ ap (λ o. given ++ line s.position o.answer ∷ cond (closing o.answer) [] (listed m o.after o.buffer p)) e
      ∙ ap (λ n. given ++ listed n s buf p) more
      ∙ so_far

  -- the line that is written, and the lines then
  module _ (x : Line) (same : x ≡ line s.position a) (new : List Line) (pushed : new ≡ given ++ x ∷ []) where
    written : new ≡ given ++ line s.position a ∷ []
    written = pushed ∙ ap (λ y. given ++ y ∷ []) same

    pub closed : true ≡ closing a → new ≡ all
    closed h = written ∙ sym (append-nil (given ++ line s.position a ∷ [])) ∙ (rw (← h) at turned)

    pub goes_on : false ≡ closing a → new ++ listed (most - (i + 1)) s' buf' p ≡ all
    goes_on h = ap (λ xs. xs ++ listed (most - (i + 1)) s' buf' p) written ∙ (rw (← h) at turned)
