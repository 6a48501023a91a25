-- Document 01's limits and smallest slices, each under a name. No other definition that has to be believed says one of these
-- numbers; the readers, which compute, say some again. Assumes nothing.
use Rattle.std.specs.Prelude.{ℕ}

-- "Description 32,768 bytes; 1,024 steps and 32,768 step text bytes; tables of depth 32, 1,024 nodes and 16,384 text bytes."
abbrev pub most_source : ℕ
most_source = 32768

abbrev pub most_steps : ℕ
most_steps = 1024

abbrev pub most_step_text : ℕ
most_step_text = 32768

abbrev pub most_depth : ℕ
most_depth = 32

abbrev pub most_nodes : ℕ
most_nodes = 1024

abbrev pub most_text : ℕ
most_text = 16384

-- "ASCII only; 1 to 255 bytes."
abbrev pub most_name : ℕ
most_name = 255

-- "Decoded, at most 4,095 bytes (a decimal's text too)."
abbrev pub most_string : ℕ
most_string = 4095

-- "Reference: 1 to 32 names joined by `:`."
abbrev pub most_names : ℕ
most_names = 32

-- "At most 32 braces and brackets are open at once."
abbrev pub most_open : ℕ
most_open = 32

-- "Smallest slices lent for output: step list 53,272; table 32,792." "Work slices of 65,536"
abbrev pub least_list : ℕ
least_list = 53272

abbrev pub least_table : ℕ
least_table = 32792

abbrev pub least_work : ℕ
least_work = 65536
