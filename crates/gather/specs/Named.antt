-- The byte behind `<!` names a scanner.
use Rattle.std.specs.Prelude.{ℕ, Ok, Result}
use Rattle.bang.specs.declared.bang.BangType.{BangType}
use Rattle.model.specs.Call.{chain}
use Rattle.model.specs.Peek.{Awaited}
use Rattle.model.specs.Bang.{bang_of}
use Rattle.errors.specs.declared.Error.{Error}

-- the scanner, with the patience left
abbrev pub named : Awaited → Result (BangType × ℕ) Error
named a = chain (chain a.first bang_of) (λ b. Ok (b, a.patience))
