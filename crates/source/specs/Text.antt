-- What is written of a fault.
use Rattle.std.specs.Prelude.{ℕ, List, ◌++◌, codes, decimal}
use Rattle.source.specs.declared.fault.Fault.{Fault}
use Rattle.source.specs.declared.fault.Fault.TheVariants.{Broken, Quota}

abbrev pub fault_text : Fault → List ℕ
fault_text (Broken code) = codes "the input broke off before its end, with code " ++ decimal code
fault_text (Quota quota) = codes "the input is longer than its quota of " ++ (decimal quota ++ codes " bytes")
