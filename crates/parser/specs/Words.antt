-- How a list of bytes begins and ends. Assumes nothing.
use Rattle.std.specs.Prelude.{ℕ, Bool, true, false, ◌&&◌, List, [], ◌∷◌, reverse, ◌==◌}

-- the list begins with the word
abbrev pub begins : List ℕ → List ℕ → Bool
begins [] xs = true
begins (w ∷ ws) [] = false
begins (w ∷ ws) (x ∷ xs) = x == w && begins ws xs

-- the list ends with the word: read backwards, it begins with the word read backwards
abbrev pub ends_with : List ℕ → List ℕ → Bool
ends_with word xs = begins (reverse word) (reverse xs)
