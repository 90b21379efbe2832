-- Document 01's lengths of received frames, of the store and of the output: each number stands here once, and everything else says
-- its name. The longest SDU, and with it the longest frame that is sent, stands in llc_pdus specs/Writes.antt.
use Rattle.std.specs.Prelude.{ℕ, ◌*◌}

-- "Frame up to 2,633": the most bits of a frame that comes in.
abbrev pub longest_frame : ℕ
longest_frame = 2633

-- "Frame bits lie in the store, 96 places of 336 bytes."
abbrev pub store_places : ℕ
store_places = 96

abbrev pub place_bytes : ℕ
place_bytes = 336

abbrev pub place_bits : ℕ
place_bits = 8 * place_bytes

-- "Is the store 32,256 bytes"
abbrev pub store_bytes : ℕ
store_bytes = store_places * place_bytes

-- "Question 1 wants an output of at least 47,040 bytes."
abbrev pub output_bytes : ℕ
output_bytes = 47040
