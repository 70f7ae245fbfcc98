-- Where a piece ends in a run of bytes.
use Rattle.std.specs.Prelude.{ℕ, zero, suc, Bool, true, false, if◌then◌else◌, List, [], ◌∷◌, Ok, Err, Result, ◌==◌}
use Rattle.parser.specs.Scan.{Verdict, stop, unclosed, Meaning}
use Rattle.parser.specs.declared.errors.SyntaxError.{SyntaxError}
use Rattle.model.specs.declared.ending.TextEnd.{TextEnd}
use Rattle.model.specs.declared.ending.TextEnd.TheVariants as text
use Rattle.model.specs.declared.ending.RefEnd.{RefEnd}
use Rattle.model.specs.declared.ending.RefEnd.TheVariants as ref

-- before the byte at a place, with it, or not in the run; then the end of the source ends it, as its bytes tell
pub data Cut (E : Type 0) : Type 0 where
  before : ℕ → E → Cut E
  through : ℕ → E → Cut E
  nowhere : (List ℕ → E) → Cut E

-- the same cut, with one byte more in front
abbrev pub behind_one : {E : Type 0} → Cut E → Cut E
behind_one (before k e) = before (suc k) e
behind_one (through k e) = through (suc k) e
behind_one (nowhere due) = nowhere due

abbrev pub behind : {E : Type 0} → ℕ → Cut E → Cut E
behind zero c = c
behind (suc n) c = behind_one (behind n c)

-- what ends a piece whose bytes are these, where the source ends
abbrev pub at_end : {E : Type 0} → Cut E → List ℕ → E
at_end (before k e) content = e
at_end (through k e) content = e
at_end (nowhere due) content = due content

-- text ends before the first `<` (60) or `&` (38)
abbrev pub text_cut : List ℕ → Cut TextEnd
text_cut [] = nowhere (λ _. text.Eof)
text_cut (b ∷ bs) = if b == 60 then before 0 text.Markup else if b == 38 then before 0 text.Ref else behind_one (text_cut bs)

-- behind its `&`, a reference ends with the first `;` (59), or before the first `&` or `<` if that comes earlier
abbrev pub name_cut : List ℕ → Cut RefEnd
name_cut [] = nowhere (λ _. ref.Eof)
name_cut (b ∷ bs) =
    if b == 59 then through 0 ref.Semicolon
    else if b == 38 then before 0 ref.Ref
    else if b == 60 then before 0 ref.Markup
    else behind_one (name_cut bs)

abbrev pub ref_cut : List ℕ → Cut RefEnd
ref_cut [] = nowhere (λ _. ref.Eof)
ref_cut (b ∷ bs) = if b == 38 then behind_one (name_cut bs) else before 0 ref.NotRef

-- the same once its `&` came, or from its start
abbrev pub ref_from : Bool → List ℕ → Cut RefEnd
ref_from true bs = name_cut bs
ref_from false bs = ref_cut bs

-- a scanner's construct ends with the byte at which it stops
abbrev pub verdict_cut : Verdict → Cut (Result (Unit {0}) SyntaxError)
verdict_cut (stop k) = through k (Ok tt)
verdict_cut (unclosed due) = nowhere (λ content. Err (due content))

abbrev pub scan_cut : Meaning → List ℕ → Cut (Result (Unit {0}) SyntaxError)
scan_cut m bs = verdict_cut (m bs)
