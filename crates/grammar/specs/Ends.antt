-- That a scanner finds where the texts of a set end. Assumes nothing.
use Rattle.std.specs.Prelude.{◌≡◌, ℕ, ◌-◌, List, ◌++◌, length, drop, Option, MatchOption, slice_index}
use Rattle.std.proofs.Math.Utf8.{encodes}
use Rattle.parser.specs.Scan.{Meaning, stop}
use Rattle.bang.specs.Bang.{bang}
use Rattle.bang.specs.declared.bang.BangType.{BangType}
use Rattle.grammar.specs.Lang.{Lang}

-- fed such a text in UTF-8 less its first n bytes, with any bytes behind it, the scanner stops at the text's last byte
abbrev pub Ends : Meaning → ℕ → Lang → Type 0
Ends m n P = (text : List ℕ) → P text → (more : List ℕ) → m (drop n (encodes text) ++ more) ≡ stop (length (encodes text) - n - 1)

-- the same of what is given for a byte, where that is the byte after the `<!` of the text, which is not fed
abbrev pub BangEnds : ℕ → Option BangType → Lang → Type 0
BangEnds byte given P = (text : List ℕ) → P text → slice_index (encodes text) 2 ≡ byte → MatchOption given ⊥ (λ s. (more : List ℕ) → bang s (drop 2 (encodes text) ++ more) ≡ stop (length (encodes text) - 2 - 1))
