-- Where the scanner of a comment stops. Assumes nothing.
use Rattle.std.proofs.Common.{◌≡◌, ℕ, ◌+◌, Bool, true, false, cond, ◌&&◌, eqb, leb, List, [], ◌∷◌, ◌++◌, reverse, length, codes, sym, refl, ap, ◌∙◌, arith, le-leb}
use mathlib.Core.List.{reverse_aux-eq}
use lib.ListN.{length-reverse}
use Rattle.parser.specs.Bytes.{Move, halt, goes}
use Rattle.parser.specs.Words.{begins}
use Rattle.parser.specs.First.{StopsAtFirst}
use Rattle.parser.specs.Doubled.{doubled_step}
use Rattle.parser.specs.Comment.{comment_due}
use Rattle.parser.specs.declared.doubled.DoubledParser.{DoubledParser}
use Rattle.parser.specs.declared.doubled.DoubledParser.TheVariants.{Seen0, Seen1, Seen2}
use Rattle.parser.proofs.Firsts.{stops_at-first, pushed, seen, seen_step}
use Rattle.bang.specs.Comment.{bang_comment, bang_comment_step, bang_comment_due, ends_bang_comment}
use Rattle.bang.specs.declared.comment.BangCommentParser.{BangCommentParser}
use Rattle.bang.specs.declared.comment.BangCommentParser.TheVariants.{Opening0, Opening1, Text}

-- the comment's state after the bytes that are, read backwards, r
abbrev dashes : List ℕ → DoubledParser 45
dashes = seen doubled_step comment_due 45 Seen0 Seen1 Seen2 (λ b. refl) (λ b. refl) (λ b. refl)

-- two dashes after two more bytes lie at place 4 or later
late : (r s : List ℕ) (e : Bool) → (leb 4 (2 + length r) && (begins (codes "--") (r ++ s) && e)) ≡ (begins (codes "--") r && e)
late [] s e = refl
late (a ∷ []) s e = go (eqb a 45)
  where
    go : (v : Bool) → false ≡ ((v && false) && e)
    go true = refl
    go false = refl
late (a ∷ b ∷ r) s e = ap (λ v. v && (begins (codes "--") (a ∷ b ∷ r ++ s) && e)) (le-leb 4 (2 + length (a ∷ b ∷ r)) (omega arith))

abbrev opened : List ℕ → BangCommentParser
opened [] = Opening0
opened (x ∷ []) = Opening1
opened (x ∷ y ∷ rest) = Text (dashes (reverse rest))

pub bang_comment-first : StopsAtFirst (bang_comment Opening0) ends_bang_comment
bang_comment-first = stops_at-first bang_comment_step bang_comment_due ends_bang_comment opened views
  where
    through : (v : Bool) (t : DoubledParser 45) → (elim (cond v halt (goes t)) as (λ _. Move BangCommentParser) [ halt ↦ halt | goes t ↦ goes (Text t) ]) ≡ cond v halt (goes (Text t))
    through true t = refl
    through false t = refl

    views : (h : List ℕ) (b : ℕ) → bang_comment_step (opened h) b ≡ cond (ends_bang_comment h b) halt (goes (opened (h ++ b ∷ [])))
    views [] b = refl
    views (x ∷ []) b = refl
    views (x ∷ y ∷ rest) b =
        ap (λ (m : Move (DoubledParser 45)). (elim m as (λ _. Move BangCommentParser) [ halt ↦ halt | goes t ↦ goes (Text t) ])) (seen_step doubled_step comment_due 45 Seen0 Seen1 Seen2 (λ b. refl) (λ b. refl) (λ b. refl) (reverse rest) b)
        ∙ through (begins (codes "--") (reverse rest) && eqb b 62) (dashes (b ∷ reverse rest))
        ∙ ap (λ v. cond v halt (goes (Text (dashes (b ∷ reverse rest))))) (sym (late (reverse rest) (y ∷ x ∷ []) (eqb b 62)) ∙ ap (λ n. leb 4 n && (begins (codes "--") (reverse rest ++ y ∷ x ∷ []) && eqb b 62)) (omega (arith, length-reverse rest)) ∙ ap (λ l. leb 4 (length (x ∷ y ∷ rest)) && (begins (codes "--") l && eqb b 62)) (sym (reverse_aux-eq rest (y ∷ x ∷ []))))
        ∙ ap (λ l. cond (ends_bang_comment (x ∷ y ∷ rest) b) halt (goes (Text (dashes l)))) (sym (pushed rest b))
