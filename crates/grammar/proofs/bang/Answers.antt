use Rattle.std.proofs.Common.{codes, refl, lit<}
use Rattle.bang.specs.declared.comment.BangCommentParser.TheVariants.{Opening0}
use Rattle.bang.specs.declared.bang.BangType.TheVariants.{CData, Comment, DocType}
use Rattle.parser.specs.declared.doubled.DoubledParser.TheVariants.{Seen0}
use Rattle.bang.specs.declared.dtd.DtdParser.TheVariants.{Before}
use Rattle.grammar.proofs.Bangs.{bang_ends}
use Rattle.grammar.proofs.Comments.{bang_comment_ends}
use Rattle.grammar.proofs.Sections.{cdata_ends}
use Rattle.grammar.proofs.Doctypes.{doctype_ends}
use Rattle.grammar.proofs.bang.Goals as goal

pub returns-clause-comment : goal.returns-clause-comment
returns-clause-comment c = bang_ends (Comment Opening0) (codes "<!--") refl (lit< tt) refl bang_comment_ends _ _ c.new.ensures

pub returns-clause-section : goal.returns-clause-section
returns-clause-section c = bang_ends (CData Seen0) (codes "<![CDATA[") refl (lit< tt) refl cdata_ends _ _ c.new.ensures

pub returns-clause-doctype : goal.returns-clause-doctype
returns-clause-doctype c = bang_ends (DocType Before) (codes "<!DOCTYPE") refl (lit< tt) refl doctype_ends _ _ c.new.ensures
