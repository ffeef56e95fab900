use Rattle.std.proofs.Common.{◌≡◌}
use Rattle.std.specs.List.{find, enumerate_from}
use Rattle.hir_signature.specs.Generics.{is_lifetime_named}
use Rattle.hir_signature.proofs.generic_params.GenericParams.find_lifetime_by_name.Given as goal

-- the first that passes is still to come, where there is one
abbrev pub invariant-loop-local_id : goal.invariant-loop-local_id
invariant-loop-local_id l =
    find (λ e. is_lifetime_named l.name e.1) l.local_id-iterator ≡ find (λ e. is_lifetime_named l.name e.1) (enumerate_from 0 l.self.lifetimes)
