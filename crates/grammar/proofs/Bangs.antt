-- The scanner that is given for the byte after `<!`. Assumes nothing.
use Rattle.std.proofs.Common.{◌≡◌, ℕ, ◌-◌, ◌<◌, true, List, ◌++◌, length, get_or, drop, Some, Option, sym, ap, ◌∙◌, subst, MatchOption}
use lib.Utf8.{encodes}
use Rattle.std.proofs.lemmas.List.{get_or_append_left}
use Rattle.std.proofs.lemmas.Str.{encodes-append}
use Rattle.parser.specs.Scan.{stop}
use Rattle.bang.specs.Bang.{bang, bang_type}
use Rattle.bang.specs.declared.bang.BangType.{BangType}
use Rattle.grammar.specs.Lang.{Lang, Word, word, ◌⨾◌, seq}
use Rattle.grammar.specs.Ends.{Ends, BangEnds}
use Rattle.grammar.proofs.Walks.{ascii, encodes_self}

pub bang_ends : {Q : Lang} (s : BangType) (w : List ℕ) → ascii w ≡ true → 2 < length w → bang_type (get_or w 2 0) ≡ Some s → Ends (bang s) 2 (Word w ⨾ Q) → (byte : ℕ) (given : Option BangType) → given ≡ bang_type byte → BangEnds byte given (Word w ⨾ Q)
bang_ends s w a lt e ends byte given is zs (seq {ys = ys} word q) at =
    let first : get_or (encodes (w ++ ys)) 2 0 ≡ get_or w 2 0 = ap (λ l. get_or l 2 0) (encodes-append w ys ∙ ap (λ l. l ++ encodes ys) (encodes_self w a)) ∙ get_or_append_left w (encodes ys) 0 2 lt in
    subst (λ g. MatchOption g ⊥ (λ t. (more : List ℕ) → bang t (drop 2 (encodes (w ++ ys)) ++ more) ≡ stop (length (encodes (w ++ ys)) - 2 - 1))) (sym (is ∙ ap bang_type (sym at ∙ first) ∙ e)) (ends (w ++ ys) (seq word q))
