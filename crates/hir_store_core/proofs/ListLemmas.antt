-- A path that fits has one list of generic arguments for each segment.
use Rattle.std.specs.Prelude.{IsTrue}
use Rattle.std.specs.Cmp.{second_so}
use Rattle.std.proofs.lemmas.Bool.{eqb-true}
use Rattle.hir_path.specs.declared.path.Path.{Path}
use Rattle.hir_path.specs.declared.path.Path.TheVariants as path
use Rattle.hir_path.specs.Paths.{segments_of}
use Rattle.hir_path.specs.Segments.{OneListEach}
use Rattle.hir_validate.specs.Fits.{path_fits}
use Rattle.hir_validate.specs.declared.node_arenas.Nodes.{Nodes}

pub one_list_each_is : (s : Nodes) (x : Path) → IsTrue (path_fits s x) → OneListEach (segments_of x)
one_list_each_is s (path.BarePath mod_path) h = tt
one_list_each_is s (path.Normal normal) h = eqb-true _ _ (second_so _ _ h)
one_list_each_is s (path.LangItem target name) h = tt
