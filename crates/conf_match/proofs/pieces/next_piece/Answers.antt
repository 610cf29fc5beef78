use Rattle.std.proofs.lemmas.List.{take_rest}
use Rattle.conf_match.specs.Pieces.{piece_meaning}
use Rattle.conf_match.proofs.GlobLemmas.{first_by}
use Rattle.conf_match.proofs.TailLemmas.{fits_next, fits_further}
use Rattle.conf_match.proofs.pieces.next_piece.Goals as goal

pub returns-clause-piece : goal.returns-clause-piece
returns-clause-piece c = rw (take_rest c.in_ok-byte.behind.now c.piece_at-more.result.1) (first_by c.args.syntax c.args.pattern.now c.in_ok-byte.byte c.in_ok-byte.behind.now (piece_meaning c.piece_at-more.result.0) c.piece_at-more.result.1 c.in_ok-byte.ensures c.piece_at-more.ensures.piece)

pub piece_at-more-requires : goal.piece_at-more-requires
piece_at-more-requires c = fits_next c.args.syntax c.in_ok-byte.byte c.args.pattern.now c.in_ok-byte.behind.now c.in_ok-byte.ensures c.requires

pub returns-clause-fits : goal.returns-clause-fits
returns-clause-fits c = rw (take_rest c.in_ok-byte.behind.now c.piece_at-more.result.1) (fits_further c.args.syntax c.piece_at-more.result.1 c.in_ok-byte.behind.now (fits_next c.args.syntax c.in_ok-byte.byte c.args.pattern.now c.in_ok-byte.behind.now c.in_ok-byte.ensures c.requires))
