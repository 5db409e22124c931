-- `put_message` meets its contract: the row's cells end within the message. The check finds this alone; the answer is here so that
-- the edit `copied_past` ends in a length at which it is false.
use native.Mathlib.Omega.{arith}
use Rattle.engine.proofs.stores.put_message.Goals as goal

pub slice_bounds-copy_from_slice-end : goal.slice_bounds-copy_from_slice-end
slice_bounds-copy_from_slice-end c = omega arith
