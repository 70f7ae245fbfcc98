-- What a scanner answers to one run after another, by its meaning.
use Rattle.std.specs.Prelude.{ℕ, List, [], ◌∷◌, ◌++◌, length, Some, None, vec_items, codes, Option, Vec}
use Rattle.std.specs.List.{flat_map}
use Rattle.bang.specs.Bang.{bang}
use Rattle.parser.specs.Comment.{comment}
use Rattle.bang.specs.Dtd.{dtd}
use Rattle.parser.specs.Element.{element}
use Rattle.parser.specs.Pi.{pi}
use Rattle.parser.specs.Scan.{Verdict, stop, unclosed, Meaning, less}
use Rattle.parser.specs.declared.errors.SyntaxError.{SyntaxError}
use Rattle.feeds.specs.declared.case.Scanner.{Scanner}
use Rattle.feeds.specs.declared.case.Scanner.TheVariants.{Elem, Pi, Comment, Dtd, Bang}

-- what is left of a meaning after the run xs
abbrev pub after : Meaning → List ℕ → Meaning
after m xs = λ ys. less (length xs) (m (xs ++ ys))

abbrev pub up_to_stop : Verdict → List (Option ℕ) → List (Option ℕ)
up_to_stop (stop k) more = Some k ∷ []
up_to_stop (unclosed due) more = None ∷ more

abbrev pub places_of : Meaning → List (List ℕ) → List (Option ℕ)
places_of m [] = []
places_of m (run ∷ runs) = up_to_stop (m run) (places_of (after m run) runs)

abbrev pub due_for : List ℕ → Verdict → Option SyntaxError
due_for content (stop k) = None
due_for content (unclosed due) = Some (due content)

abbrev pub unless_stop : Verdict → Option SyntaxError → Option SyntaxError
unless_stop (stop k) fault = None
unless_stop (unclosed due) fault = fault

abbrev pub fault_of : Meaning → List ℕ → List (List ℕ) → Option SyntaxError
fault_of m content [] = due_for content (m [])
fault_of m content (run ∷ runs) = unless_stop (m run) (fault_of (after m run) content runs)

abbrev pub meaning_of : Scanner → Meaning
meaning_of (Elem s) = element s
meaning_of (Pi s) = pi s
meaning_of (Comment s) = comment s
meaning_of (Dtd s) = dtd s
meaning_of (Bang s) = bang s

abbrev pub opening_of : Scanner → List ℕ
opening_of (Elem s) = codes "<"
opening_of (Pi s) = codes "<"
opening_of (Comment s) = codes "<"
opening_of (Dtd s) = codes "<!"
opening_of (Bang s) = codes "<!"

-- the piece from its `<`
abbrev pub content_of : {Z : Type 0} → Scanner → List (Vec ℕ Z) → List ℕ
content_of s runs = opening_of s ++ flat_map vec_items runs
