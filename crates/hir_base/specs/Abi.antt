-- Defines the texts of calling conventions.
use Rattle.std.specs.Prelude.{ℕ, List, codes}
use Rattle.hir_base.specs.declared.abi.ExternAbi.{ExternAbi}
use Rattle.hir_base.specs.declared.abi.ExternAbi.TheVariants.{Rust, C, CUnwind, System, SystemUnwind, Named}

-- the text in quotes after `extern`
abbrev pub abi_text : ExternAbi → List ℕ
abi_text Rust = codes "Rust"
abi_text C = codes "C"
abi_text CUnwind = codes "C-unwind"
abi_text System = codes "system"
abi_text SystemUnwind = codes "system-unwind"
abi_text (Named text) = text
