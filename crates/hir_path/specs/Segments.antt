-- Defines the model of a path's segments, which is two lists, the names and perhaps their arguments, and the
-- cuts of such a view.
use Rattle.std.specs.Prelude.{◌≡◌, ⊤, ℕ, nat_le, List, [], ◌∷◌, length, take, drop, Option, Some, None, cond}
use Rattle.std.specs.Option.{option_map, option_copied}
use Rattle.hir_base.specs.Ids.{Name}
use Rattle.hir_path.specs.declared.path.GenericArgs.{GenericArgs}
use Rattle.hir_path.specs.declared.segments.PathSegment.{PathSegment}
use Rattle.hir_path.specs.declared.segments.PathSegments.{PathSegments}
use Rattle.hir_path.specs.declared.segments_iter.PathSegmentsIter.{PathSegmentsIter}
use Rattle.hir_path.specs.Lists.{all_but}

pub record Segments : Type 0 where
  pub names : List Name
  pub lists : Option (List (Option GenericArgs))

-- one segment: its name, and its arguments if it has any
pub record Segment : Type 0 where
  pub name : Name
  pub args : Option GenericArgs

-- the model of a segment
abbrev pub segment_of : PathSegment → Segment
segment_of s = record { name = s.name.now; args = option_copied s.args_and_bindings }

-- the model of a view
abbrev pub segments_in : PathSegments → Segments
segments_in s = record { names = s.segments.now; lists = option_copied s.generic_args }

-- the view of no names and no lists
abbrev pub empty : Segments
empty = record { names = []; lists = None }

-- each name with the arguments at its index, and with none if the lists are shorter
abbrev pub with_args : List Name → List (Option GenericArgs) → List Segment
with_args [] lists = []
with_args (name ∷ names) [] = record { name = name; args = None } ∷ with_args names []
with_args (name ∷ names) (args ∷ lists) = record { name = name; args = args } ∷ with_args names lists

-- the lists, and no lists in place of missing ones
abbrev pub or_none : Option (List (Option GenericArgs)) → List (Option GenericArgs)
or_none None = []
or_none (Some lists) = lists

abbrev pub items : Segments → List Segment
items s = with_args s.names (or_none s.lists)

-- the members from the n-th on, if the list has so many
abbrev pub past : {X : Type 0} → ℕ → Option (List X) → Option (List X)
past n None = None
past n (Some xs) = cond (nat_le n (length xs)) (Some (drop n xs)) None

-- what an iterator over segments has left
abbrev pub segments_left : PathSegmentsIter → List Segment
segments_left it = with_args it.names.now it.lists.now

-- the segments without the first n; none, and no lists, if there are fewer
abbrev pub skip : ℕ → Segments → Segments
skip n s = record { names = drop n s.names; lists = past n s.lists }

-- the first n segments, or all if there are fewer
abbrev pub first : ℕ → Segments → Segments
first n s = record { names = take n s.names; lists = option_map (take n) s.lists }

-- the segments without the last n names and the last n lists, each by its own length
abbrev pub strip : ℕ → Segments → Segments
strip n s = record { names = all_but n s.names; lists = option_map (all_but n) s.lists }

-- there is one list for each name, as in a normal path, or no list of lists, as in every other path; an
-- empty list of lists is one for each name only if there are no names
abbrev pub one_each : List Name → Option (List (Option GenericArgs)) → Type 0
one_each names None = ⊤
one_each names (Some lists) = length lists ≡ length names

abbrev pub OneListEach : Segments → Type 0
OneListEach s = one_each s.names s.lists
