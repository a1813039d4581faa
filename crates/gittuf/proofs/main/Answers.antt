use denote.Param.Send.{sendable}
use Rattle.program_stores.proofs.Sending.{row_send}
use Rattle.gittuf.proofs.main.Goals as goal

pub serve_asked-keeper-requires-send-R : goal.serve_asked-keeper-requires-send-R
serve_asked-keeper-requires-send-R c κs = search (sendable, row_send)
