use Rattle.llc_tick_end.proofs.Whole.{first-room, second, third, fourth, tick-end-is}
use Rattle.llc_tick_end.proofs.four_passes.tick_end.Goals as goal

pub submit_retransmissions_to_umac-resent-requires-clause-room : goal.submit_retransmissions_to_umac-resent-requires-clause-room
submit_retransmissions_to_umac-resent-requires-clause-room c =
    first-room _ c.args.store.now _ c.lengths.ensures c.requires

pub submit_free_messages_to_umac-sent-requires : goal.submit_free_messages_to_umac-sent-requires
submit_free_messages_to_umac-sent-requires c =
    second _ _ _ c.lengths.ensures c.requires c.submit_retransmissions_to_umac-resent.ensures

pub submit_ack_replies_to_umac-replied-requires : goal.submit_ack_replies_to_umac-replied-requires
submit_ack_replies_to_umac-replied-requires c =
    third _ c.args.store.now _ c.lengths.ensures c.requires c.submit_retransmissions_to_umac-resent.ensures c.submit_free_messages_to_umac-sent.ensures

pub submit_udata_msgs_to_umac-requires : goal.submit_udata_msgs_to_umac-requires
submit_udata_msgs_to_umac-requires c =
    fourth _ _ _ c.lengths.ensures c.requires c.submit_retransmissions_to_umac-resent.ensures c.submit_free_messages_to_umac-sent.ensures c.submit_ack_replies_to_umac-replied.ensures

pub returns : goal.returns
returns c =
    tick-end-is _ c.args.store.now _ c.lengths.ensures c.requires c.submit_retransmissions_to_umac-resent.ensures c.submit_free_messages_to_umac-sent.ensures c.submit_ack_replies_to_umac-replied.ensures c.submit_udata_msgs_to_umac.ensures
