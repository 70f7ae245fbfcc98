-- read_bang_element leaves the opening as it was where it hands its token back.
use Rattle.std.proofs.Common.{◌≡◌, ℕ, true, List, length, drop, is_some, Some, None, Ok, Err, Option, Result, refl, ap, ◌∙◌, subst}
use Rattle.source.specs.Stream.{Item}
use Rattle.bang.specs.declared.bang.BangType.{BangType}
use Rattle.model.specs.Call.{State, Outcome, outcome, admitted, chain, spending}
use Rattle.model.specs.Peek.{await}
use Rattle.model.specs.Bang.{bang_of, bangs, bang_unless, bang_first, bang_named}
use Rattle.model.specs.declared.ending.Pending.TheVariants as pending
use Rattle.model.specs.declared.answer.Refused.{Refused}
use Rattle.errors.specs.declared.Error.{Error}
use Rattle.script.specs.Held.{handed}

abbrev Keeps : {A T : Type 0} → State → Outcome (Result A (Refused T)) → Type 0
Keeps s o = is_some (handed o.answer) ≡ true → o.after.opening ≡ s.opening

spent : (T : Type 0) (w : ℕ) {A B : Type 0} (r : Result A Error) → is_some (handed (spending {T = T} w r)) ≡ true → B
spent T w (Ok a) h = cc
spent T w (Err e) h = cc

-- at what a call answered
pub keeps : {A T : Type 0} (s : State) {r : Result A (Refused T)} {s' : State} {b : List ℕ} (o : Outcome (Result A (Refused T))) → outcome r s' b ≡ o → Keeps s o → is_some (handed r) ≡ true → s'.opening ≡ s.opening
keeps s o e k h = ap (λ x. x.after.opening) e ∙ k (subst (λ x. is_some (handed x.answer) ≡ true) e h)

module _ {T : Type 0} (token : T) (s : State) (buf : List ℕ) (p : ℕ) where
  pub bang_keeps : Keeps s (bangs token s buf p)
  bang_keeps = go (admitted s.position (length buf) pending.Bang s.opening 2)
    where
      named : (is : List Item) (q : ℕ) (k : Result BangType Error) → Keeps s (bang_named token s buf k is q)
      named is q (Ok k) h = spent T _ _ h
      named is q (Err e) h = cc

      first : (is : List Item) (q : ℕ) (r : Result (Option ℕ) Error) → Keeps s (bang_first token s buf r is q)
      first is q (Ok (Some b)) h = let a = await q (drop 1 is) s.stream.tail in named a.left a.patience (chain a.first bang_of) h
      first is q (Ok None) h = cc
      first is q (Err e) h = cc

      go : (r : Result (Unit {0}) Error) → Keeps s (bang_unless token s buf r p)
      go (Ok u) h = let a = await p s.stream.items s.stream.tail in first a.left a.patience a.first h
      go (Err e) h = refl
