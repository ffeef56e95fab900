-- What every printing returns.
use Rattle.std.specs.Prelude.{◌≡◌, List, Some, None, Result, Err, IfOk, String, string_bytes}
use Rattle.hir_store_core.specs.declared.missing.Missing.{Missing}
use Rattle.hir_pretty_nodes.specs.declared.fault.PrintFault.{PrintFault}
use Rattle.hir_pretty_nodes.specs.DocPieces.{DocPiece, first_missing, layout, text_of}
use Rattle.hir_pretty_nodes.specs.declared.fault.PrintFault.TheVariants as fault
use Rattle.hir_pretty_docs.specs.NameLookups.{PrintEnv}
use Rattle.hir_pretty_layout.specs.{Layouts.Layout, Steps.steps}

-- The text of doc pieces of which no definition is missing; the first definition that is missing; or that an
-- allocation failed.
pub record PrintsPieces {A : Type 0} (s : PrintEnv) (ps : List DocPiece)
    (result : Result (String A) PrintFault) : Type 0 where
  pub text : IfOk result (λ text. (first_missing ps ≡ None) × (string_bytes text ≡ text_of s ps))
  pub missing : (m : Missing) → result ≡ Err (fault.Missing m) → first_missing ps ≡ Some m

-- The steps over doc pieces of which no definition is missing lead from the first value to the last; the
-- first definition that is missing; or that an allocation failed.
pub record WritesPieces {W : Type 0} (step : Layout → W → W) (ps : List DocPiece) (entry : W)
    (result : Result W PrintFault) : Type 0 where
  pub exit : IfOk result (λ exit. (first_missing ps ≡ None) × (exit ≡ steps step (layout ps) entry))
  pub missing : (m : Missing) → result ≡ Err (fault.Missing m) → first_missing ps ≡ Some m
