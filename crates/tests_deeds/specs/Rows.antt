-- What the rows need of their device.
use Rattle.std.specs.Prelude.{◌≡◌, Bool, List}
use Rattle.blockdev.specs.Watching.{Watch}
use Rattle.deeds.specs.Shown.{AreTold, bytes_of}
use Rattle.deeds.specs.declared.views.Block.{Block}

-- it has two blocks of 16 bytes, which the device's side knows
abbrev pub Fits : Bool → Watch → List Block → Type 0
Fits told w blocks = (w.device.count ≡ 2) × (w.device.size ≡ 16) × AreTold told w.device (bytes_of blocks)
