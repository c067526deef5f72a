use Rattle.std.proofs.Common.{ap, length, ◌<◌, ◌+◌, arith, List}
use Rattle.machine.specs.State.{File}
use Rattle.cachecore.specs.Standing.{store_over}
use Rattle.cachecore.proofs.Adoptions.{file_more}
use Rattle.cachecore.proofs.catalogs.pages_of.Goals as goal

pub files-preserved : goal.files-preserved
files-preserved c =
    let sizes = c.args.catalog.now.files.sizes in
    let n = c.files.file in
    let here : n < length sizes = omega (arith, c.files-test.true, c.file_count-file-end.ensures) in (
      rw (c.set_size.ensures, c.in_ok-add_file.ensures.ok, c.files.invariant.0, c.size.ensures)
          (ap (λ (files : List File). record (store_over c.args.geometry.now sizes) { files = files }) (file_more sizes n here)),
      omega (arith, here),
    )
