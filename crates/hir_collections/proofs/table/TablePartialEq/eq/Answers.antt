use Rattle.std.specs.Bool.{one_answer}
use Rattle.std.specs.Cmp.Lexicographic.{nat_list_cmp_total}
use Rattle.std.proofs.lemmas.Map.Lookups.{hash_map_eq-Decides}
use Rattle.hir_collections.specs.Maps.{same_maps_decides}
use Rattle.hir_collections.specs.Table.{by_code-IsAntisymmetric}
use Rattle.hir_collections.proofs.TableLemmas.{same_tables}
use Rattle.hir_collections.proofs.table.TablePartialEq.eq.Goals as goal

pub returns : goal.returns
returns g c =
    let mine = c.self.inside.entries in
    let theirs = c.other.inside.entries in
    let same_answers = hash_map_eq-Decides g.met.K.Eq.laws g.met.V.ExactEq.eq_decides mine theirs c.eq.result c.eq.ensures in
    let same = same_tables g.K.HasCode.code g.K.PartialEq.eq g.met.K.HasCode.code_tells mine.entries theirs.entries c.eq.result same_answers in
    rw (← c.self.view_is, ← c.other.view_is)
    (one_answer c.eq.result _ same (same_maps_decides nat_list_cmp_total g.V.PartialEq.eq by_code-IsAntisymmetric g.met.V.ExactEq.eq_decides _ _))
