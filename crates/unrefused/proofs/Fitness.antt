-- Every call keeps the axis fit, and a tick of a fit axis is not refused.
use Rattle.unrefused.proofs.BlockFits.{block_fits}
use Rattle.unrefused.proofs.CallFits.{starts_fit, setup_fits, code_fits}
use Rattle.unrefused.proofs.TickFits.{tick_fits}
use Rattle.unrefused.specs.Fits.{DriveTakesAll}

pub drives_take_all : DriveTakesAll
drives_take_all g l h =
    record {
      begins = starts_fit g l;
      set_up = setup_fits g;
      event = code_fits g;
      block = block_fits g h;
      tick = tick_fits g;
    }
