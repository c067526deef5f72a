-- The bytes of a page that is clean are those of its block.
use Rattle.std.proofs.Common.{◌≡◌, ℕ, ◌<◌, true, cond, eqb, eq-eqb, ltb, get_or, refl, ap, sym, ◌∙◌, arith}
use Rattle.std.proofs.Common.{◌&&◌, Bool, Some, None}
use Rattle.std.specs.Prelude.{nat_lt, unwrap_or}
use Rattle.std.proofs.lemmas.Bool.Decides.{nat_tests}
use Rattle.pc_types.proofs.FileLaws.{byte-page}
use Rattle.pc_types.proofs.SpotLaws.{byte-shown}
use Rattle.machine.specs.State.{State, block_at, valid_at}
use Rattle.runs.specs.Plain.{plain_file}
use Rattle.runs.specs.Runs.{plain_at, world_at}
use Rattle.runs.specs.World.{World, block_bytes, own_block}
use Rattle.runs.proofs.moments.FilesHeld.{files_are_held}
use Rattle.contiguous.specs.Bytes.{BytesAreInPlace}
use Rattle.contiguous.specs.Contiguous.{IsOneExtent}

own : (s : State) (f n p : ℕ) → IsOneExtent s f n → p < n → block_at s f p ≡ Some p
own s f n p is h = is f p ∙ ap (λ b. cond b (Some p) None) (both (eqb f f) (nat_lt p n) (eq-eqb f f refl) (grind (arith, nat_tests)))
  where
    both : (a b : Bool) → a ≡ true → b ≡ true → (a && b) ≡ true
    both a b e k = λ i. e i && k i

pub bytes_are_in_place : BytesAreInPlace
bytes_are_in_place w run first r k f n p x is has small valid not_dirty not_writeback =
    let now : World = world_at w run k in
    let holds = files_are_held w run first r k in
    ap (λ b. get_or (block_bytes now (unwrap_or b 0)) x 0) (sym (own now.core f n p is has))
    ∙ sym (byte-shown now.core.sizes.page (valid_at now.core f p) (own_block now f p) x
    ∙ (λ i. cond (test x now.core.sizes.page small i)
    (cond (test x (valid_at now.core f p) valid i) (get_or (own_block now f p) x 0) 0) 0))
    ∙ ap (λ b. get_or b x 0) (holds.clean f p not_dirty not_writeback)
    ∙ byte-page now.core.sizes.page (plain_file (plain_at w run k) f) p x small
  where
    test : (x y : ℕ) → x < y → ltb x y ≡ true
    test x y h = grind (arith, nat_tests)
