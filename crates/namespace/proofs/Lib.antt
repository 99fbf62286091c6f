mod Listed
mod Forms
