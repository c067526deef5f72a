-- What the passes know, and how views are cut and joined.
use Rattle.std.specs.Prelude.{ℕ, Bool, false, List, [], Option, Some, None, Ok, slice_get}
use Rattle.std.specs.Option.{unwrap_or}
use Rattle.pc_types.specs.declared.kind.Kind.TheVariants.{Fill}
use Rattle.deeds.specs.declared.views.Block.{Block}
use Rattle.deeds.specs.declared.views.Given.{Given}
use Rattle.deeds.specs.declared.views.Done.{Done}
use Rattle.deeds.specs.declared.views.Deed.{Deed}
use Rattle.deeds.specs.declared.views.Place.{Place}
use Rattle.deeds.specs.declared.views.Place.TheVariants.{Home}
use Rattle.deeds.specs.declared.views.View.{View}

-- the block whose deed it is
abbrev pub block_of : Deed → ℕ
block_of d = d.given.task.block

-- a deed whose call is still to be made, and one whose call was made
abbrev pub undone : Given → Deed
undone g = record { given = g; done = None }

abbrev pub carried : Given → Done → Deed
carried g x = record { given = g; done = Some x }

-- ---- the views

abbrev pub spent : View
spent = record { device = None; desk = None; deed = None }

abbrev pub device_view : Bool → List Block → View
device_view told blocks = record { device = Some (told, blocks); desk = None; deed = None }

abbrev pub desk_view : Bool → List Place → View
desk_view told places = record { device = None; desk = Some (told, places); deed = None }

abbrev pub deed_view : Deed → View
deed_view d = record { device = None; desk = None; deed = Some d }

abbrev pub both_view : Bool × List Block → Bool × List Place → View
both_view device desk = record { device = Some device; desk = Some desk; deed = None }

abbrev pub opening_view : View
opening_view = both_view (false, []) (false, [])

abbrev pub device_with : Bool → List Block → Deed → View
device_with told blocks d = record { device = Some (told, blocks); desk = None; deed = Some d }

abbrev pub desk_with : Bool → List Place → Deed → View
desk_with told places d = record { device = None; desk = Some (told, places); deed = Some d }

-- ---- their parts

abbrev pub no_block : Block
no_block = record { bytes = []; calls = 0 }

abbrev pub no_given : Given
no_given = record { task = record { cache = 0; serial = 0; kind = Fill; block = 0; bytes = [] }; before = no_block }

abbrev pub no_done : Done
no_done = record {
  finished = record { cache = 0; serial = 0; kind = Fill; block = 0; bytes = []; outcome = Ok tt };
  left = no_block;
}

abbrev pub device_in : View → Bool × List Block
device_in v = unwrap_or v.device (false, [])

abbrev pub desk_in : View → Bool × List Place
desk_in v = unwrap_or v.desk (false, [])

abbrev pub deed_in : View → Deed
deed_in v = unwrap_or v.deed (undone no_given)

abbrev pub given_in : View → Given
given_in v = (deed_in v).given

abbrev pub done_in : View → Done
done_in v = unwrap_or (deed_in v).done no_done

-- what the device has of a block whose deed is at home
abbrev pub home_block : Option Place → Block
home_block (Some (Home now)) = now
home_block p = no_block

abbrev pub home_in : List Place → ℕ → Block
home_in places block = home_block (slice_get places block)

-- ---- cut and joined

abbrev pub first_of : {A : Type 0} → Option A → Option A → Option A
first_of None y = y
first_of (Some x) y = Some x

abbrev pub together : View → View → View
together v w = record {
  device = first_of v.device w.device;
  desk = first_of v.desk w.desk;
  deed = first_of v.deed w.deed;
}

abbrev pub without_device : View → View
without_device v = record v { device = None }

abbrev pub device_alone : View → View
device_alone v = record { device = v.device; desk = None; deed = None }

abbrev pub without_deed : View → View
without_deed v = record v { deed = None }

abbrev pub deed_alone : View → View
deed_alone v = record { device = None; desk = None; deed = v.deed }
