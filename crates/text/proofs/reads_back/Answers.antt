-- The three theorems.
use Rattle.text.proofs.Back.{hex_reads_back, decimal_reads_back, frame_reads_back}
use Rattle.text.proofs.reads_back.Goals as goal

pub returns : goal.returns
returns c = record { hex = hex_reads_back; decimal = decimal_reads_back; frame = frame_reads_back }
