use Rattle.std.proofs.Common.{◌<◌, length, arith}
use Rattle.socks_dialog.proofs.Dialogs.{socks-parse, socks-ends}
use Rattle.socks_dialog.proofs.Few.{socks-few}
use Rattle.socks_dialog.proofs.laws.dialogs_of_a_stream.Goals as goal

pub returns-clause-outcome : goal.returns-clause-outcome
returns-clause-outcome c = λ bytes more ne. socks-parse.stays bytes more ne

pub returns-clause-replies : goal.returns-clause-replies
returns-clause-replies c = λ bytes more. ((socks-parse.grows bytes more).later, (socks-parse.grows bytes more).is)

pub returns-clause-few : goal.returns-clause-few
returns-clause-few c = socks-few

pub returns-clause-ends : goal.returns-clause-ends
returns-clause-ends c = λ bytes are e. let lt : length bytes < 520 = socks-ends bytes are e in omega arith
