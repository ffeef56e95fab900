use Rattle.std.proofs.Common.{◌≡◌, ◌+◌, ◌-◌, ◌≤◌, [], ◌++◌, Ok, take, length, vec_len, eqb, sym, ap, ◌∙◌, arith, rules, length-take}
use Rattle.std.specs.Prelude.{slice_range}
use Rattle.std.specs.Vec.{with_items}
use Rattle.std.proofs.lemmas.List.{with_items_is, places}
use borrow.Rule.Slice.PartMut.{put_mid}
use Rattle.hir_show_io.proofs.HeldBytes.{moved_prefix, read_after, is_with_bytes}
use Rattle.hir_show_io.proofs.Ranges.{range_none}
use Rattle.hir_show_io.proofs.lines.LineReader.fill.Goals as goal

pub invariant_of-self : goal.invariant_of-self
invariant_of-self g c =
    let b = c.self.inside in
    let kept = c.self.invariant in
    let made = c.make_room-room.ensures in
    let prefix = moved_prefix b.bytes.items c.make_room-room.new.bytes.items b.start b.scanned b.filled kept.2 kept.3 made.moved in
    (omega arith, omega arith, omega arith, omega arith, omega (arith, kept.4, made.kept), omega (arith, kept.5, made.kept), rw prefix kept.6)

pub returns-in-Ok-clause-fills : goal.returns-in-Ok-clause-fills
returns-in-Ok-clause-fills g c =
    let read = c.in-Ok.ensures {u = tt} in
    let made = c.make_room-room.ensures in
    let b = c.self.inside in
    let n = c.in-Ok.count in
    let held = b.filled - b.start in
    let room = c.deref_mut.result.now in
    let buffer = c.read.new.buffer in
    let bytes = take n buffer in
    let vec = c.make_room-room.new.bytes in
    let all = put_mid held (length room - held) room buffer in
    let suffix : length buffer ≡ length room - held = search rules in
    let size : length room ≡ vec_len vec = c.deref_mut.ensures.len in
    let enough : held + 65536 ≤ vec_len vec = search rules in
    let items : (with_items vec all).items ≡ all = with_items_is vec all (search (rules, places)) in
    let kept : take held room ≡ c.args.self.now.pending = ap (take held) c.deref_mut.ensures.value ∙ made.moved ∙ ap (λ v. v.pending) c.self.view_is in
    let filled : slice_range (with_items vec all).items 0 (held + n) ≡ c.args.self.now.pending ++ bytes =
    rw items (read_after room buffer held (length room - held) n (omega arith) read.count ∙ ap (λ v. v ++ bytes) kept) in
    let some : length bytes ≡ n = omega (arith, length-take n buffer, read.count) in
    let none : bytes ≡ [] → n ≡ 0 = λ e. sym some ∙ ap length e in (
      bytes,
      read.bytes,
      is_with_bytes _ _ bytes _ _ c.args.self.now (range_none (with_items vec all).items 0) filled (ap (λ v. eqb v 0) (sym some)) (ap (λ v. v.count) c.self.view_is),
      λ e. read.end (ap Ok (none e)) (omega arith),
    )
