-- Caches over one device, each with the files of its catalog.
use Rattle.std.proofs.Common.{◌≡◌, ℕ, ◌*◌, ◌<◌, ◌≤◌, List, length, take, drop, All, refl, arith, length-drop}
use Rattle.std.proofs.lemmas.Grind.{common_steps}
use Rattle.std.proofs.lemmas.List.{length-take-le}
use Rattle.std.proofs.lemmas.Nat.{row_fits}
use Rattle.sharded.specs.Promises.{ShardsMayBegin}

part_length : (count k size : ℕ) (device : List (List ℕ)) → count * size ≤ length device → k < count → length (take size (drop (k * size) device)) ≡ size
part_length count k size device room h =
    let fits = row_fits k size count size h (omega arith) in
    length-take-le size (drop (k * size) device) (omega (arith, length-drop (k * size) device))

part_sizes : (page k size : ℕ) (device : List (List ℕ)) → All (λ block. length block ≡ page) device → All (λ block. length block ≡ page) (take size (drop (k * size) device))
part_sizes page k size device sized = grind (arith, common_steps)

pub shards_may_begin : ShardsMayBegin
shards_may_begin sizes name catalog device count k page room sized h is = record {
  catalog = catalog k;
  is_catalog = is;
  adopts = record {
    page_size = page;
    core = refl;
    outcomes = refl;
    writing = refl;
    blocks = part_length count k sizes.blocks device room h;
    block_sizes = part_sizes sizes.page k sizes.blocks device sized;
  };
}
