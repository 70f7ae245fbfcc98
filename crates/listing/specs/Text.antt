-- What is written of a line: three fields, with tabs (9) between them.
use Rattle.std.specs.Prelude.{ℕ, List, ◌++◌, codes, decimal}
use Rattle.piece.specs.Kinds.{kind_text}
use Rattle.listing.specs.declared.line.Line.{Line}
use Rattle.listing.specs.declared.line.Line.TheVariants.{Piece, End, Fault}

abbrev pub line_text : Line → List ℕ
line_text (Piece k p w) = kind_text k ++ (codes "\t" ++ (decimal p ++ (codes "\t" ++ decimal w)))
line_text (End p) = codes "end\t" ++ (decimal p ++ codes "\t0")
line_text (Fault p n) = codes "fault\t" ++ (decimal p ++ (codes "\t" ++ decimal n))
