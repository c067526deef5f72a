-- A cache core as its callers see it: a state of the machine, and beside it the page lists, of which the machine says
-- nothing.
use Rattle.std.specs.Prelude.{refl}
use Rattle.std.specs.Coded.{Coded, code_by, coded×}
use Rattle.machine.specs.PageLists.{PageLists}
use Rattle.machine.specs.State.{State}
use Rattle.machine.specs.inside.Codes.{lists_code, state_code}

pub record Core : Type 0 where
  pub state : State
  pub lists : PageLists

abbrev pub core_code : Coded Core
core_code =
    code_by (State × PageLists) (coded× state_code lists_code) (λ c. (c.state, c.lists))
    (λ v. record { state = v.0; lists = v.1 }) (λ _. refl)
