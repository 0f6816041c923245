-- All definitions that compute, opened at once.
use Rattle.hpack_text.specs.Bits.{bits_of, number_of_bits, octets_of_bits}
use Rattle.hpack_text.specs.Huffman.{groups, code_in, code, huffman_bits}
use Rattle.hpack_text.specs.Integers.{continuation_of, integer}
use Rattle.hpack_text.specs.Strings.{string}
use Rattle.hpack.specs.Sizes.{fit}
use Rattle.hpack.specs.Static.{static_entries, entry}
use Rattle.hpack.specs.Choice.{least_index, choice, encoding_of_fields, after_fields, size_updates}
use Rattle.hpack.specs.Choice.{block_of, after_block}
use Rattle.h2_frame.specs.Codes.{kind_of}
use Rattle.h2_frame.specs.Heads.{head_of, fits_stream, fits_length, form_fault, head_fault}
use Rattle.h2_frame.specs.Pairs.{pairs_in}
use Rattle.h2_frame.specs.Frames.{pads_too_much, payload_fault}
use Rattle.h2_frame.specs.Encoding.{kind_of_frame, stream_of, flags_of, has_good_values}
use Rattle.h2_block.specs.Grouping.{is_standalone, fault_inside}
use Rattle.h2_block.specs.Spread.{spread_frames}
use Rattle.h2_spec_log.specs.Log.{allowed_by, least_goaway, newest_ping, next_active, next_number}
use Rattle.h2_spec_log.specs.Log.{owed, released, unreleased, widened}
use Rattle.h2_spec_log.specs.States.{any_block, count_below, is_above, is_active, is_closed_by_us}
use Rattle.h2_spec_log.specs.States.{is_over, is_used, least_block}
use Rattle.h2_spec_log.specs.Verdicts.{block_verdict, connection_update_verdict, data_verdict}
use Rattle.h2_spec_log.specs.Verdicts.{opening_verdict, reset_verdict, update_verdict}
use Rattle.h2_spec_log.specs.CallRules.{conditions, encoder_after_call, first_of, with_max_frame}
use Rattle.h2_spec_log.specs.Items.{data_of, data_on, ends, greatest_block, increment_on}
use Rattle.h2_spec_log.specs.Items.{is_block_on, is_goaway, is_goaway_below, one_answer, one_ping}
use Rattle.h2_spec_log.specs.Items.{one_reset, opens_from, resets, stream_of_item, total}
use Rattle.h2_spec_log.specs.ItemEffects.{discarded_flow, events_of}
use Rattle.h2_spec_log.specs.Events.{flow_on, greatest_processed, one_acked, one_pong, processed_by}
use Rattle.h2_spec_log.specs.Events.{reported_total, reports_unprocessed}
use Rattle.h2_spec_log.specs.ItemRules.{over_limits, verdict_by_rules}
use Rattle.h2_spec_log.specs.Windows.{given_on, given_on_connection, granted_on}
use Rattle.h2_spec_log.specs.Windows.{granted_on_connection}
use Rattle.h2_spec_log.specs.Settings.{greatest_from, one_ack, one_settings, settings_count}
use Rattle.h2_spec_log.specs.Settings.{value_after, value_after_all, value_fault, value_read}
use Rattle.h2_spec_log.specs.LogView.{overflows}
use Rattle.h2_spec_log.proofs.Names
use Names.{payload_of, encoding_of, refusal, preface, expected_preface, fault_outside}
use Names.{continuations, IsTypedAct, active_count, last_processed, max_payload_sent_by}
use Names.{max_streams, next_unprocessed, output, waiting, lesser_number, before, takes}
use Names.{takes_block, before_put_out, opened, refused_with, with_call, with_items, changed_pairs}
use Names.{data_frames, data_items, items_of, may_lack_memory, may_fail_for_memory, opening_pairs}
use Names.{refuse_fault, stream_of_act, encoding_of_item, encoding_of_items, encoder_after_settings}
use Names.{frame_step, grouped, grouping_step, may_be_first, opened_by, replies_to, settings_fault}
use Names.{verdict_of, payload_limit, settings_of, owed_at_close, used, with_frame, with_reported}
use Names.{with_sent, with_step, with_unreturned, with_verdict}
use Rattle.h2_spec_log.proofs.examples.Octets.{octets_after}

-- opens all that computes
unfoldable pub computing : Unit {0}
unfolding bits_of number_of_bits octets_of_bits groups code_in code huffman_bits continuation_of
    integer string
    fit static_entries entry least_index choice encoding_of_fields after_fields size_updates
    block_of after_block kind_of head_of fits_stream fits_length form_fault head_fault pairs_in
    pads_too_much payload_fault kind_of_frame stream_of flags_of payload_of encoding_of
    has_good_values refusal preface expected_preface is_standalone fault_outside fault_inside
    continuations spread_frames IsTypedAct active_count allowed_by any_block before
    before_put_out block_verdict changed_pairs conditions connection_update_verdict count_below
    data_frames data_items data_of data_on data_verdict discarded_flow encoder_after_call
    encoder_after_settings encoding_of_item encoding_of_items ends events_of first_of
    flow_on frame_step given_on given_on_connection granted_on granted_on_connection
    greatest_block greatest_from greatest_processed grouped grouping_step increment_on is_above
    is_active is_block_on is_closed_by_us is_goaway is_goaway_below is_over is_used items_of
    last_processed least_block lesser_number least_goaway max_payload_sent_by max_streams
    may_be_first may_fail_for_memory may_lack_memory newest_ping next_active next_number
    next_unprocessed one_ack one_acked
    one_answer one_ping one_pong one_reset one_settings opened opened_by opening_pairs
    opening_verdict opens_from output over_limits overflows owed owed_at_close payload_limit
    processed_by refuse_fault refused_with released replies_to reported_total
    reports_unprocessed reset_verdict resets settings_count settings_fault settings_of stream_of_act
    stream_of_item takes takes_block total unreleased update_verdict used
    value_after value_after_all value_fault value_read verdict_by_rules verdict_of waiting widened
    with_call with_frame with_items with_max_frame with_reported with_sent with_step
    with_unreturned with_verdict octets_after
computing = tt
