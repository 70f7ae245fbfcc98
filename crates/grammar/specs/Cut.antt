-- A DOCTYPE that holds a comment, cut between any two bytes. Assumes nothing.
use Rattle.std.specs.Prelude.{◌≡◌, ℕ, ◌+◌, ◌-◌, cond, List, [], ◌∷◌, ◌++◌, length, drop, Ok, Err, Result, nat_lt}
use Rattle.std.proofs.Math.Utf8.{encodes}
use Rattle.std.specs.List.{flat_map}
use Rattle.parser.specs.declared.errors.SyntaxError.{SyntaxError}
use Rattle.parser.specs.declared.errors.SyntaxError.TheVariants.{UnclosedDoctype}
use Rattle.grammar.specs.Lang.{Lang}
use Rattle.grammar.specs.Xml.{Comment}
use Rattle.grammar.specs.Doctype.{Opening, Closing}

-- what is told of runs where the byte at place k ends the construct: each earlier run is open, and the stop is a place of its own run
abbrev pub stops_at : SyntaxError → ℕ → List (List ℕ) → List (Result ℕ SyntaxError)
stops_at fault k [] = []
stops_at fault k (run ∷ runs) = cond (nat_lt k (length run)) (Ok k ∷ []) (Err fault ∷ stops_at fault (k - length run) runs)

-- However a text of the set, less its first two bytes and with any bytes behind it, is cut into runs, the stop is at its last byte.
abbrev pub CutAnywhere : Lang → List (List ℕ) → List (Result ℕ SyntaxError) → Type 0
CutAnywhere P runs told =
    (text : List ℕ) → P text → (more : List ℕ) → flat_map (λ run. run) runs ≡ drop 2 (encodes text) ++ more → told ≡ stops_at UnclosedDoctype (length (encodes text) - 2 - 1) runs

-- Where the comment of a DOCTYPE is cut at any place into two runs, the first is open, and the second stops at the DOCTYPE's last byte.
abbrev pub CutInComment : List (List ℕ) → List (Result ℕ SyntaxError) → Type 0
CutInComment runs told =
    (opening comment closing : List ℕ) → Opening opening → Comment comment → Closing closing → (one two more : List ℕ) → one ++ two ≡ encodes comment → runs ≡ (drop 2 (encodes opening) ++ one) ∷ (two ++ (encodes closing ++ more)) ∷ [] → told ≡ Err UnclosedDoctype ∷ Ok (length two + length (encodes closing) - 1) ∷ []
