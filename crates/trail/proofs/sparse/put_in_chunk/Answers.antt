use Rattle.std.proofs.Common.{rules, ◌≡◌, ap, sym, ◌∙◌, ◌/◌, ◌%◌, Some, None, refl}
use Rattle.std.specs.Prelude.{IsSome}
use Rattle.std.specs.Ordering.{nat_cmp}
use Rattle.std.specs.BTreeMap as tree
use Rattle.std.proofs.lemmas.Result.{on_ok_weaker}
use Rattle.pc_types.specs.Files.{pwrite}
use Rattle.trail.specs.Sparse.{chunk_bytes}
use Rattle.trail.proofs.SparseLaws.{put_in_map}
use Rattle.trail.proofs.sparse.put_in_chunk.Goals as goal

pub returns-in-Some-clause-put : goal.returns-in-Some-clause-put
returns-in-Some-clause-put c =
    let m = c.args.chunks.now in
    let w = c.lay.new.chunk in
    let k = c.args.at / 4096 in
    let was : tree.get nat_cmp m k ≡ Some c.in-Some.chunk.now = search rules in
    let there : IsSome (tree.get nat_cmp m k) = rw was refl in
    let up = (c.get_mut.follows.holds w).3 there in
    on_ok_weaker c.lay.result (λ laid. put_in_map m (c.get_mut.follows.lender w) c.args.at c.args.bytes.now w c.requires
    (laid ∙ (λ i. pwrite (chunk_bytes (sym was i)) (c.args.at % 4096) c.args.bytes.now)) up.1 up.2)
    c.lay.ensures.laid

pub returns-in-Ok-clause-put : goal.returns-in-Ok-clause-put
returns-in-Ok-clause-put c =
    let m = c.args.chunks.now in
    let k = c.args.at / 4096 in
    let w = c.lay-2.new.chunk in
    let none : tree.get nat_cmp m k ≡ None = search rules in
    let same : c.get_mut.follows.lender-at-none ≡ m = c.get_mut.follows.holds-at-none in
    let up = c.in-Ok.ensures.updates in
    put_in_map m c.insert.new.self c.args.at c.args.bytes.now w c.requires
    (c.in_ok-lay.ensures.laid ∙ (λ i. pwrite (c.new-chunk.ensures.items i) (c.args.at % 4096) c.args.bytes.now)
    ∙ (λ i. pwrite (chunk_bytes (sym none i)) (c.args.at % 4096) c.args.bytes.now))
    up.1 (λ q d. up.2 q d ∙ ap (λ x. tree.get nat_cmp x q) same)
