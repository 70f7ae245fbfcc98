-- What a line means as a case.
use Rattle.std.specs.Prelude.{ℕ, List, ◌∷◌, Some, None, vec_items, Option}
use Rattle.cases.specs.Fields.{fields_of, limits_of}
use Rattle.cases.specs.Steps.{step_of}
use Rattle.cases.specs.Words.{bound, split, every, none_or, decimal_of, pairs_of}
use Rattle.cases.specs.declared.case.Case.{Case}
use Rattle.cases.specs.declared.step.Step.{Step}

pub record Meant : Type 0 where
  pub id : List ℕ
  pub start : ℕ
  pub cuts : List ℕ
  pub fault : ℕ
  pub bytes : List ℕ
  pub script : List Step
  pub narrow : ℕ
  pub quota : ℕ

abbrev pub meant_case : Case → Meant
meant_case c = record {
  id = c.id.now;
  start = c.start;
  cuts = vec_items c.cuts;
  fault = c.fault;
  bytes = vec_items c.bytes;
  script = vec_items c.script;
  narrow = c.narrow;
  quota = c.quota;
}

-- six fields, and those for the limits
abbrev pub case_in : List (List ℕ) → Option Meant
case_in (id ∷ start ∷ cuts ∷ fault ∷ bytes ∷ script ∷ limits) =
    bound (decimal_of 18446744073709551615 start) (λ s. bound (decimal_of 255 fault) (λ f. bound (limits_of limits) (λ l.
    bound (none_or (λ t. every (decimal_of 255) (split 44 t)) cuts) (λ cs. bound (none_or pairs_of bytes) (λ bs. bound (every step_of (split 44 script)) (λ steps.
    Some (record {
      id = id;
      start = s;
      cuts = cs;
      fault = f;
      bytes = bs;
      script = steps;
      narrow = l.0;
      quota = l.1;
    })))))))
case_in fields = None

abbrev pub case_of : List ℕ → Option Meant
case_of line = bound (fields_of line) case_in
