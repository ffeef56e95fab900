use Rattle.hir_pretty.proofs.signatures.print_signature.Goals as goal

pub returns-in-UnionId : goal.returns-in-UnionId
returns-in-UnionId c = rw (c.in-AdtId.is, c.in-UnionId.is) (rw c.into_raw.ensures at c.print_other.ensures)

pub returns-in-EnumId : goal.returns-in-EnumId
returns-in-EnumId c = rw (c.in-AdtId.is, c.in-EnumId.is) (rw c.into_raw-in-EnumId.ensures at c.print_other-in-EnumId.ensures)

pub returns-in-ConstId : goal.returns-in-ConstId
returns-in-ConstId c = rw c.in-ConstId.is (rw c.into_raw-in-ConstId.ensures at c.print_other-in-ConstId.ensures)

pub returns-in-ImplId : goal.returns-in-ImplId
returns-in-ImplId c = rw c.in-ImplId.is (rw c.into_raw-in-ImplId.ensures at c.print_other-in-ImplId.ensures)

pub returns-in-StaticId : goal.returns-in-StaticId
returns-in-StaticId c = rw c.in-StaticId.is (rw c.into_raw-in-StaticId.ensures at c.print_other-in-StaticId.ensures)

pub returns-in-TraitId : goal.returns-in-TraitId
returns-in-TraitId c = rw c.in-TraitId.is (rw c.into_raw-in-TraitId.ensures at c.print_other-in-TraitId.ensures)

pub returns-in-TypeAliasId : goal.returns-in-TypeAliasId
returns-in-TypeAliasId c = rw c.in-TypeAliasId.is (rw c.into_raw-in-TypeAliasId.ensures at c.print_other-in-TypeAliasId.ensures)
