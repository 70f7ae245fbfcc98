-- The token of a pending opening.
use Rattle.reader.specs.declared.token.Token.{Token}

-- where `true` is 1
abbrev pub OpeningToken : Type 0
OpeningToken = Token 1
