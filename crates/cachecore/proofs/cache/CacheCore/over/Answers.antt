use Rattle.std.proofs.Common.{◌≡◌, subst, arith, sym}
use Rattle.std.specs.FinMap as finmap
use Rattle.std.proofs.lemmas.Bool.Decides.{nat_tests}
use Rattle.machine.specs.Catalogs.{IsCatalog, adopted}
use Rattle.cachecore.specs.Standing.{store_over}
use Rattle.cachecore.specs.Tables.{IsCache}
use Rattle.cachecore.proofs.Adoptions.{cache-adopted}
use Rattle.cachecore.proofs.cache.CacheCore.over.Goals as goal

pub returns-clause-catalog : goal.returns-clause-catalog
returns-clause-catalog c =
    let a = c.is_for.ensures.fits in
    let b = c.if-not-is_for.false in
    c.is_for.ensures.always (grind (arith, nat_tests, a, b)) (grind (arith, nat_tests, a, b))

pub invariant_of-result : goal.invariant_of-result
invariant_of-result c =
    let g = c.args.geometry.now in
    let files = c.args.catalog.files in
    let a = c.is_for.ensures.fits in
    let b = c.if-not-is_for.false in
    let page : g.page ≡ c.args.catalog.page = grind (arith, nat_tests, a, b) in
    let blocks : g.blocks ≡ c.args.catalog.blocks = grind (arith, nat_tests, a, b) in
    let ok : IsCatalog g files = c.is_for.ensures.always page blocks in
    rw (
      c.new-2.ensures,
      c.in-Ok.ensures.made,
      c.in-Ok-new.ensures,
      c.into_blocks.ensures,
      c.new-3.ensures,
      c.new-4.ensures,
    ) (subst (λ n. IsCache (adopted g c.args.name files) (store_over g files.sizes) (record { count = n; spots = files.spots; held = finmap.empty }))
    blocks (cache-adopted g c.args.name files ok c.pages_of.ensures.few))
