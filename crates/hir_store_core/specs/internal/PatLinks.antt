-- Beside PatLinks.antt: what only contracts within this crate cite.
use Rattle.std.specs.Prelude.{◌∷◌}
use Rattle.hir_store_core.specs.Prelude.{List, [], set, PatId}
use Rattle.hir_store_core.specs.declared.pat_links.PatLink.{PatLink}
use Rattle.hir_store_core.specs.declared.pat_links.PatLink.TheVariants.{Next, Last}

-- the links with those of the children of a pattern
abbrev pub link_children : PatId → List PatId → List PatLink → List PatLink
link_children m [] links = links
link_children m (k ∷ []) links = set links k (Last m)
link_children m (k ∷ q ∷ more) links = link_children m (q ∷ more) (set links k (Next q))
