use Rattle.same_run.proofs.Calls.{same_call, same_over_files}
use Rattle.same_run.proofs.same_call_law.Goals as goal

pub returns-clause-by_bytes : goal.returns-clause-by_bytes
returns-clause-by_bytes c = λ words told known before after reads more failed missed out_old out_new out_other err_old err_new err_other status code f other a b bytes rules.
    same_call words before after reads more failed missed out_old out_new out_other err_old err_new err_other status code f other told known a b bytes rules

pub returns-clause-by_files : goal.returns-clause-by_files
returns-clause-by_files c = λ words files before after reads more failed missed out_old out_new out_other err_old err_new err_other status code f other a b.
    same_over_files words before after reads more failed missed out_old out_new out_other err_old err_new err_other status code f other files a b
