-- The numbers of the refusals.
use Rattle.std.specs.Prelude.{ℕ}
use Rattle.parser.specs.Faults as syntax
use Rattle.errors.specs.declared.Error.{Error}
use Rattle.errors.specs.declared.Error.TheVariants.{Position, BufferTooLong, Opening, NotBang, BufferTooShort, Patience, Io, FirstByte, BufferFull, Syntax, Utf8, PieceTooLong}

abbrev pub number : Error → ℕ
number Position = 1
number BufferTooLong = 2
number Opening = 3
number NotBang = 4
number BufferTooShort = 5
number Patience = 6
number (Io fault) = 7
number FirstByte = 8
number BufferFull = 10
number (Syntax e) = syntax.number e
number (Utf8 e) = 19
number PieceTooLong = 20
