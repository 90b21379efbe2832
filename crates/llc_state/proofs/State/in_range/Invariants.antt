use Rattle.llc_state.specs.Ranges.{message_in_range, udata_in_range, ack_in_range, row_in_range, place_in_range}
use Rattle.llc_state.proofs.State.in_range.Given as goal

abbrev pub ghost-all_of : goal.ghost-all_of
ghost-all_of a = message_in_range

abbrev pub ghost-all_of-2 : goal.ghost-all_of-2
ghost-all_of-2 a = udata_in_range

abbrev pub ghost-all_of-3 : goal.ghost-all_of-3
ghost-all_of-3 a = ack_in_range

abbrev pub ghost-all_of-4 : goal.ghost-all_of-4
ghost-all_of-4 a = row_in_range

abbrev pub ghost-all_of-5 : goal.ghost-all_of-5
ghost-all_of-5 a = place_in_range
