-- Bytes and their ends: the first piece of each, from position 0 into a buffer of 64 zeros.
use Rattle.std.specs.Prelude.{◌≡◌, ℕ, List, [], ◌∷◌, replicate, None, Err, codes}
use Rattle.source.specs.Cuts.{cut_at}
use Rattle.parser.specs.declared.errors.SyntaxError.TheVariants.{InvalidBangMarkup, UnclosedXmlDecl, UnclosedComment, UnclosedTag}
use Rattle.model.specs.Call.{state, refusal}
use Rattle.errors.specs.declared.Error.TheVariants.{Syntax, Utf8}
use Rattle.piece.specs.Next.{Next, nexts, piece}
use Rattle.piece.specs.declared.kinds.Kind.TheVariants.{Pi, Comment, DocType}

-- the answer of next_piece over a source that cuts these bytes by these entries, and the position behind it
abbrev pub first : List ℕ → List ℕ → List ℕ → Next × ℕ
first bytes entries buf =
    ((nexts (state (cut_at entries bytes 0) 0 None) buf 0).answer, (nexts (state (cut_at entries bytes 0) 0 None) buf 0).after.position)

-- what it leaves in the buffer
abbrev pub left_in : List ℕ → List ℕ → List ℕ → List ℕ
left_in bytes entries buf = (nexts (state (cut_at entries bytes 0) 0 None) buf 0).buffer

abbrev pub Row : List ℕ → List ℕ → Next → ℕ → Type 0
Row bytes entries answer position = first bytes entries (replicate 64 0) ≡ (answer, position)

pub record Rows : Type 0 where
  -- `<?>` is an instruction
  pub question : Row (codes "<?>") [] (piece Pi 3) 3
  pub declaration : Row (codes "<?xml") [] (Err (refusal (Syntax UnclosedXmlDecl) 5 5)) 5
  -- the dashes of the opening do not end a comment
  pub three_dashes : Row (codes "<!--->") [] (Err (refusal (Syntax UnclosedComment) 6 6)) 6
  pub four_dashes : Row (codes "<!---->") [] (piece Comment 7) 7
  -- the position stays where no kind is named
  pub bang : Row (codes "<!") [] (Err (refusal (Syntax InvalidBangMarkup) 2 2)) 0
  pub opening : Row (codes "<") [] (Err (refusal (Syntax UnclosedTag) 0 1)) 0
  -- a declaration that is none of the four ends at its first `>`
  pub unknown : Row (codes "<!DOCTYPE a [<!X \">]\">]>") [] (piece DocType 22) 22
  -- cut after 19 and 21 bytes, inside a comment
  pub commented : Row (codes "<!DOCTYPE t [<!--a-b->]>c-->]>") (19 ∷ 2 ∷ []) (piece DocType 30) 30
  -- `a`, then two bytes that are no character
  pub broken : Row (97 ∷ 0xC3 ∷ 0x28 ∷ []) [] (Err (refusal (Utf8 (record { valid_up_to = 1 })) 3 3)) 3
