-- Defines the annotation of a binding, the words before its name.
use Rattle.std.specs.Prelude.{Bool, true, false}
use Rattle.hir_node.specs.declared.binding.BindingAnnotation.{BindingAnnotation}
use Rattle.hir_node.specs.declared.binding.BindingAnnotation.TheVariants.{Unannotated, Mutable, Ref, RefMut}

-- the annotation of a binding, by whether it is mutable and whether it is a reference
abbrev pub annotation : Bool → Bool → BindingAnnotation
annotation false false = Unannotated
annotation true false = Mutable
annotation false true = Ref
annotation true true = RefMut
