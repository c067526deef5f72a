-- The rule of deeds: what is true of the device, of the desk and of each deed that is out. And what each step tells.
use Rattle.std.specs.Prelude.{◌≡◌, ◌≢◌, ℕ, Bool, true, List, map, length, slice_get, slice_set}
use Rattle.std.specs.Prelude.{Option, Some, None, option_map, is_some, IfSome}
use mathlib.Core.Option.{some}
use lib.ListN.{get_elem?}
use Rattle.atomic_table.specs.Table.{State, Me}
use Rattle.deeds.specs.Comes.{Comes, MayHave}
use Rattle.deeds.specs.Views.{block_of, undone, carried, both_view}
use Rattle.deeds.specs.declared.views.Block.{Block}
use Rattle.deeds.specs.declared.views.Given.{Given}
use Rattle.deeds.specs.declared.views.Done.{Done}
use Rattle.deeds.specs.declared.views.Deed.{Deed}
use Rattle.deeds.specs.declared.views.Place.{Place}
use Rattle.deeds.specs.declared.views.Place.TheVariants.{Home, Out}
use Rattle.deeds.specs.declared.views.View.{View}

-- what the device has of a block whose deed is out: what it had when the deed was given, until the call, and then what that left
abbrev pub block_now : Given → Option Done → Block
block_now g None = g.before
block_now g (Some x) = x.left

-- the deed is out at the desk, for this; the device has this of its block; and what came of its call may come of it
abbrev pub FitsDeed : Bool → List Block → List Place → Deed → Type 0
FitsDeed told blocks places d =
    (slice_get places (block_of d) ≡ Some (Out d.given))
    × (slice_get blocks (block_of d) ≡ Some (block_now d.given d.done))
    × IfSome d.done (λ x. Comes told d.given.task d.given.before x.finished x.left)

abbrev pub Fits : Bool → List Block → List Place → View → Type 0
Fits told blocks places v =
    IfSome v.device (λ d. d ≡ (told, blocks)) × IfSome v.desk (λ d. d ≡ (told, places))
    × IfSome v.deed (FitsDeed told blocks places)

-- what the device has of a block whose deed is out for this
abbrev pub HasOut : Bool → List Block → ℕ → Given → Type 0
HasOut told blocks block g = (now : Block) × (slice_get blocks block ≡ Some now) × MayHave told g.task g.before now

-- what only one view may have: the device's side, the desk, the deed of a block
pub data Part : Type 0 where
  the_device : Part
  the_desk : Part
  the_deed : ℕ → Part

abbrev pub Has : Part → View → Type 0
Has the_device v = is_some v.device ≡ true
Has the_desk v = is_some v.desk ≡ true
Has (the_deed block) v = option_map block_of v.deed ≡ Some block

pub record IsKept (s : State ℕ View) : Type 0 where
  pub told : Bool
  pub blocks : List Block
  pub places : List Place
  pub count : length places ≡ length blocks
  -- a deed that is at home has what the device has of its block
  pub home : (block : ℕ) (now : Block) → slice_get places block ≡ Some (Home now) → slice_get blocks block ≡ Some now
  -- and one that is out has what it had, or what its call may have left
  pub out : (block : ℕ) (g : Given) → slice_get places block ≡ Some (Out g) → HasOut told blocks block g
  pub each : (at : ℕ) (v : View) → get_elem? s.views at ≡ some v → Fits told blocks places v
  -- each part is in one view alone
  pub alone : (p : Part) (i j : ℕ) (u v : View) → get_elem? s.views i ≡ some u → get_elem? s.views j ≡ some v
      → Has p u → Has p v → i ≡ j

-- ---- what the steps tell

-- all deeds are at home, each with what the device has of its block
abbrev pub OpenedTo : Bool → List Block → View → Type 0
OpenedTo told blocks after = after ≡ both_view (told, blocks) (told, map Home blocks)

abbrev pub Opened : Bool → List Block → Me ℕ View → Me ℕ View → Type 0
Opened told blocks before after = (after.1 ≡ before.1) × OpenedTo told blocks after.0

-- the deed is out
abbrev pub GivenFrom : Given → View → Option (Bool × List Place) → View → Type 0
GivenFrom g before (Some (told, places)) after =
    after ≡ record before { desk = Some (told, slice_set places g.task.block (Out g)); deed = Some (undone g) }
GivenFrom g before None after = Unit {0}

abbrev pub GivenOut : Given → Me ℕ View → Me ℕ View → Type 0
GivenOut g before after = (after.1 ≡ before.1) × GivenFrom g before.0 before.0.desk after.0

-- the device had of the block what it had when the deed was given, and the deed's call was made
abbrev pub CarriedFrom : Done → View → Option (Bool × List Block) → Option Deed → View → Type 0
CarriedFrom x before (Some (told, blocks)) (Some d) after =
    (slice_get blocks (block_of d) ≡ Some d.given.before)
    × (after ≡ record before { device = Some (told, slice_set blocks (block_of d) x.left); deed = Some (carried d.given x) })
CarriedFrom x before bs d after = Unit {0}

abbrev pub Carried : Done → Me ℕ View → Me ℕ View → Type 0
Carried x before after = (after.1 ≡ before.1) × CarriedFrom x before.0 before.0.device before.0.deed after.0

-- the deed was out for what it says, what came of its call, if it was made, may come of it, and it is at home again
abbrev pub TakenFrom : View → Option (Bool × List Place) → Option Deed → View → Type 0
TakenFrom before (Some (told, places)) (Some d) after =
    (slice_get places (block_of d) ≡ Some (Out d.given))
    × IfSome d.done (λ x. Comes told d.given.task d.given.before x.finished x.left)
    × (after ≡ record before {
      desk = Some (told, slice_set places (block_of d) (Home (block_now d.given d.done)));
      deed = None;
    })
TakenFrom before ps d after = Unit {0}

abbrev pub TakenBack : Me ℕ View → Me ℕ View → Type 0
TakenBack before after = (after.1 ≡ before.1) × TakenFrom before.0 before.0.desk before.0.deed after.0

-- the desk knows what the device has of each block: of one whose deed is at home what that has, and of one whose deed is out
-- what it had, or what the deed's call may have left
pub record Knows (told : Bool) (blocks : List Block) (places : List Place) : Type 0 where
  pub count : length places ≡ length blocks
  pub home : (block : ℕ) (now : Block) → slice_get places block ≡ Some (Home now) → slice_get blocks block ≡ Some now
  pub out : (block : ℕ) (g : Given) → slice_get places block ≡ Some (Out g) → HasOut told blocks block g

-- each deed is at home
abbrev pub NoneOut : List Place → Type 0
NoneOut places = (block : ℕ) (g : Given) → slice_get places block ≢ Some (Out g)

abbrev pub ComparedFrom : Option (Bool × List Block) → Option (Bool × List Place) → Type 0
ComparedFrom (Some device) (Some desk) = Knows device.0 device.1 desk.1
ComparedFrom bs ps = Unit {0}

abbrev pub Compared : Me ℕ View → Me ℕ View → Type 0
Compared before after = (after ≡ before) × ComparedFrom before.0.device before.0.desk
