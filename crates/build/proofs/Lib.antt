mod Numbers
mod Laying
mod Written
mod Built
mod Fitted
mod Admitted
