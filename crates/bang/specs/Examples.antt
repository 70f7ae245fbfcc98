-- Two document type declarations, fed from the byte after `<!`. Assumes nothing.
use Rattle.std.specs.Prelude.{◌≡◌, ℕ, List, [], ◌∷◌, codes, Ok, Err}
use Rattle.parser.specs.Scan.{Meaning, stop}
use Rattle.parser.specs.Runs.{told}
use Rattle.parser.specs.declared.errors.SyntaxError.TheVariants.{UnclosedDoctype}

pub record Examples (m : Meaning) : Type 0 where
  -- a `>` in a comment, and one after a single dash there, end nothing
  pub comment : m (codes "DOCTYPE t [<!--a-b->]>c-->]>") ≡ stop 27
  -- the same in three runs, the first two of which end in a dash of the comment
  pub comment_cut : (content : List ℕ) → told m content [] (codes "DOCTYPE t [<!--a-" ∷ codes "b-" ∷ codes ">]>c-->]>" ∷ []) ≡ Err UnclosedDoctype ∷ Err UnclosedDoctype ∷ Ok 8 ∷ []
  -- no keyword says that quotes count, so the `>` in them ends the markup, the `]` the subset, and the next `>` the whole
  pub unknown : m (codes "DOCTYPE a [<!X \">]\">]>") ≡ stop 19
  -- the same in three runs
  pub cut : told m [] [] (codes "DOCTYPE a [<!X \">" ∷ codes "]\"" ∷ codes ">]>" ∷ []) ≡ Err UnclosedDoctype ∷ Err UnclosedDoctype ∷ Ok 0 ∷ []
