-- When a token is held, and when an answer hands one back.
use Rattle.std.specs.Prelude.{◌≡◌, ℕ, true, is_some, Some, None, Ok, Err, Option, Result}
use Rattle.model.specs.declared.answer.Refused.{Refused}
use Rattle.model.specs.declared.answer.Refused.TheVariants.{Kept, Spent}

-- a token is held only while an opening is pending
abbrev pub Held : {T : Type 0} → Option T → Option ℕ → Type 0
Held held opening = is_some held ≡ true → is_some opening ≡ true

module _ {A T : Type 0} where
  abbrev pub handed : Result A (Refused T) → Option T
  handed (Ok a) = None
  handed (Err (Kept e token)) = Some token
  handed (Err (Spent r)) = None

  abbrev pub without_token : Result A (Refused T) → Result A (Refused (Unit {0}))
  without_token (Ok a) = Ok a
  without_token (Err (Kept e token)) = Err (Kept e tt)
  without_token (Err (Spent r)) = Err (Spent r)
