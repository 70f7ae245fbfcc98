-- The kinds of pieces: which a `<!` begins, and what is written of each.
use Rattle.std.specs.Prelude.{ℕ, List, codes}
use Rattle.model.specs.declared.answer.BangKind.{BangKind}
use Rattle.model.specs.declared.answer.BangKind.TheVariants as bang
use Rattle.piece.specs.declared.kinds.Kind.{Kind}
use Rattle.piece.specs.declared.kinds.Kind.TheVariants.{Text, Ref, Loose, Tag, Pi, Comment, CData, DocType}

abbrev pub bang_kind : BangKind → Kind
bang_kind bang.CData = CData
bang_kind bang.Comment = Comment
bang_kind bang.DocType = DocType

abbrev pub kind_text : Kind → List ℕ
kind_text Text = codes "text"
kind_text Ref = codes "ref"
kind_text Loose = codes "loose"
kind_text Tag = codes "tag"
kind_text Pi = codes "pi"
kind_text Comment = codes "comment"
kind_text CData = codes "cdata"
kind_text DocType = codes "doctype"
