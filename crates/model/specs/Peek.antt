-- What peek_one and abandon do.
use Rattle.std.specs.Prelude.{ℕ, zero, suc, if◌then◌else◌, List, [], ◌∷◌, drop, Some, None, Ok, Err, Option, Result, ◌==◌}
use Rattle.source.specs.Stream.{Item, byte, wait, Tail, end, fault}
use Rattle.model.specs.Call.{State, state, left_with, Outcome, outcome, refusal, admitted, pends}
use Rattle.model.specs.declared.ending.Pending.TheVariants as pending
use Rattle.model.specs.declared.answer.Refusal.{Refusal}
use Rattle.model.specs.declared.answer.Refused.{Refused}
use Rattle.model.specs.declared.answer.Refused.TheVariants.{Kept}
use Rattle.errors.specs.declared.Error.{Error}
use Rattle.errors.specs.declared.Error.TheVariants.{FirstByte, Io, Patience}

-- what stands first once waits are passed, a byte or none at the end; the items there, and the patience left
pub record Awaited : Type 0 where
  pub first : Result (Option ℕ) Error
  pub left : List Item
  pub patience : ℕ

abbrev pub awaited : Result (Option ℕ) Error → List Item → ℕ → Awaited
awaited r is p = record { first = r; left = is; patience = p }

abbrev pub await : ℕ → List Item → Tail → Awaited
await p [] end = awaited (Ok None) [] p
await p [] (fault f) = awaited (Err (Io f)) [] p
await zero (wait ∷ is) t = awaited (Err Patience) is zero
await (suc p) (wait ∷ is) t = await p is t
await p (byte b ∷ is) t = awaited (Ok (Some b)) (byte b ∷ is) p

module _ {T : Type 0} (token : T) (s : State) where
  -- behind the `<`
  abbrev pub peek_behind : Result (Option ℕ) Error → List Item → Outcome (Result (Option (ℕ × T)) Refusal)
  peek_behind (Ok (Some b)) is = outcome (Ok (Some (b, token))) (left_with s is s.position (Some b)) []
  peek_behind (Ok None) is = outcome (Ok None) (left_with s is s.position None) []
  peek_behind (Err e) is = outcome (Err (refusal e 0 1)) (left_with s is s.position None) []

  abbrev pub peek_after : Awaited → Outcome (Result (Option (ℕ × T)) Refusal)
  peek_after a = peek_behind a.first a.left

  -- nothing was taken
  abbrev pub peek_none : Error → List Item → Outcome (Result (Option (ℕ × T)) Refusal)
  peek_none e is = outcome (Err (refusal e 0 0)) (left_with s is s.position s.opening) []

  -- `<` is 60
  abbrev pub peek_first : Result (Option ℕ) Error → List Item → ℕ → Outcome (Result (Option (ℕ × T)) Refusal)
  peek_first (Ok (Some b)) is p = if b == 60 then peek_after (await p (drop 1 is) s.stream.tail) else peek_none FirstByte is
  peek_first (Ok None) is p = peek_none FirstByte is
  peek_first (Err e) is p = peek_none e is

  abbrev pub peek_from : Awaited → Outcome (Result (Option (ℕ × T)) Refusal)
  peek_from a = peek_first a.first a.left a.patience

  abbrev pub peek_unless : Result (Unit {0}) Error → ℕ → Outcome (Result (Option (ℕ × T)) Refusal)
  peek_unless (Err e) p = peek_none e s.stream.items
  peek_unless (Ok u) p = peek_from (await p s.stream.items s.stream.tail)

  -- it has no buffer
  abbrev pub peeks : ℕ → Outcome (Result (Option (ℕ × T)) Refusal)
  peeks p = peek_unless (admitted s.position 0 pending.Nothing s.opening 0) p

  abbrev pub abandon_unless : Result (Unit {0}) Error → Outcome (Result (Unit {0}) (Refused T))
  abandon_unless (Ok u) = outcome (Ok tt) (state s.stream s.position None) []
  abandon_unless (Err e) = outcome (Err (Kept e token)) s []

  abbrev pub abandons : Outcome (Result (Unit {0}) (Refused T))
  abandons = abandon_unless (pends pending.Opening s.opening)
