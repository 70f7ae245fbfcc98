-- What is written for a line, by the call that answered it.
use Rattle.std.proofs.Common.{◌≡◌, ℕ, List, [], IfSome, OnOk, IsErr, Some, Ok, Err, Option, Result, refl, sym, ap, ◌∙◌, subst, Bor, MutBor, Vec, Global}
use Rattle.std.specs.Fn.{Called, Mut}
use Rattle.std.specs.Option.{option_map}
use Rattle.cases.specs.Lines.{Writes, WritesBy}
use Rattle.cases.specs.declared.bad.Bad.{Bad}

pub written_by : {F X E : Type 0} (g : Mut F (Bor (List ℕ) × (MutBor (Vec ℕ Global) × Unit {0})) (Result (Result X E) Bad × (MutBor (Vec ℕ Global) × Unit {0}))) (f f' : F) (meant : Option (List ℕ)) (found : Option (Bor (List ℕ))) (line : Bor (List ℕ)) (room left : MutBor (Vec ℕ Global)) (answered : Result (Result X E) Bad) (result : Result X E) (lines : List ℕ) → found ≡ Some line → option_map (λ x. x.now) found ≡ meant → room.now.items ≡ [] → Called g f (line, (room, tt)) (answered, (left, tt)) f' → Writes line.now left.now.items answered result lines → IfSome meant (λ text. WritesBy g f text f' result lines)
written_by g f f' meant found line room left answered result lines is e empty called w =
    subst (λ o. IfSome o (λ text. WritesBy g f text f' result lines)) (sym (ap (option_map (λ x. x.now)) is) ∙ e)
    (record { line = line; room = room; shows = (refl, empty); answered = answered; left = left; called = called; writes = w })

pub refused : {X E : Type 0} (P : Type 0) (r : Result X E) → IsErr r → OnOk r P
refused P (Ok x) h = cc
refused P (Err e) h = tt
